-- When a tree is read as a fleet.
use Rattle.std.specs.Prelude.{codes}
use Rattle.sj_text_core.specs.Tree.{Tree}
use Rattle.sj_uses.specs.Typed.{MeansNumber, MeansText, MeansList, HasMember, HasOptional}
use Rattle.sj_uses.specs.declared.fleet.Server.{Server}
use Rattle.sj_uses.specs.declared.fleet.Fleet.{Fleet}

abbrev pub MeansServer : Tree → Server → Type 0
MeansServer t s = HasMember MeansText (codes "name") t s.name × HasMember (MeansList (MeansNumber 16)) (codes "ports") t s.ports × HasOptional MeansText (codes "backup") t s.backup

abbrev pub MeansFleet : Tree → Fleet → Type 0
MeansFleet t f = HasOptional MeansText (codes "owner") t f.owner × HasMember (MeansList (MeansList MeansServer)) (codes "groups") t f.groups
