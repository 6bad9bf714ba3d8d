-- A map as contracts see it: its members in order, no two of one text, beside its hasher and its buckets, which are as many as the members want.
use Rattle.std.specs.Prelude.{◌≡◌, ℕ, true, List, Option, length}
use Rattle.sj_object.specs.Texts.{no_repeats}
use Rattle.sj_object.specs.Entries.{Entry, entry_texts}
use Rattle.sj_object.specs.Index.{HasRoom}
use Rattle.sj_object.specs.inner.Index.{HasRoom-prop}
use mathlib.Core.HLevel.{is_prop→PathP}
use base.Stored.{Coded, coded×, coded_list, coded_ℕ, coded_bool, coded_via, Coded-set}
use Rattle.std.specs.Coded.{coded_option}

pub record Contents (K V S : Type 0) : Type 0 where
  pub entries : List (Entry K V)
  pub hasher : S
  pub buckets : Option ℕ
  pub distinct : no_repeats (entry_texts entries) ≡ true
  pub room : HasRoom (length entries) buckets

abbrev MapParts : Type 0 → Type 0 → Type 0 → Type 0
MapParts K V S = List (Entry K V) × (S × Option ℕ)

module _ {K V S : Type 0} where
  abbrev parts : Contents K V S → MapParts K V S
  parts m = (m.entries, (m.hasher, m.buckets))

  -- contents that agree in what is data are the same
  pub same_contents : (m n : Contents K V S) → parts m ≡ parts n → m ≡ n
  same_contents m n e = λ i. record {
    entries = (e i).0;
    hasher = (e i).1.0;
    buckets = (e i).1.1;
    distinct = is_prop→PathP (λ j. no_repeats (entry_texts (e j).0) ≡ true) (λ j. Coded-set coded_bool _ _) m.distinct n.distinct i;
    room = is_prop→PathP (λ j. HasRoom (length (e j).0) (e j).1.1) (λ j. HasRoom-prop (length (e j).0) (e j).1.1) m.room n.room i;
  }

  abbrev pub contents_code : Coded K → Coded V → Coded S → Coded (Contents K V S)
  contents_code k v s = coded_via (coded× (coded_list (coded× (coded× k (coded_list coded_ℕ)) v)) (coded× s (coded_option coded_ℕ))) parts same_contents
