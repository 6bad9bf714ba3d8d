-- Where a message goes, and what is written of it.
use Rattle.std.specs.Prelude.{ℕ, ◌+◌, ◌++◌, pos, List, [], ◌∷◌, Option, Some, None, if◌then◌else◌, bytes_eq, codes}
use Rattle.sj_text_core.specs.Ascii.{line_feed}
use Rattle.sj_text_core.specs.Tree.{Tree, int, u64}
use Rattle.sj_text_core.specs.Find.{find}
use Rattle.sj_text_core.specs.Keep.{keep}
use Rattle.sj_text_core.specs.Print.{compact}
use Rattle.sj_text_core.specs.Reads.{as_text, as_unsigned, member_as}
use Rattle.sj_document.specs.Document.{with_member}
use Rattle.sj_path.specs.Pointed.{pointed}
use Rattle.sj_uses.specs.declared.router.Route.{Route}
use Rattle.sj_uses.specs.declared.router.Route.TheVariants.{Alerts, News, Other}

abbrev pub by_topic : Option (List ℕ) → Route
by_topic None = Other
by_topic (Some s) = if bytes_eq s (codes "news") then News else Other

abbrev by_urgent : Option Tree → Route → Route
by_urgent None r = r
by_urgent (Some u) r = Alerts

-- what the pointer finds is urgent, whatever it is; else the member named topic says where
abbrev pub route : List ℕ → List (List ℕ) → Tree → Route
route topic urgent t = by_urgent (pointed urgent t) (by_topic (member_as as_text (find topic t)))

abbrev or_zero : Option ℕ → ℕ
or_zero None = 0
or_zero (Some n) = n

-- one hop more than the member says, where it is a number below 2^32, else the first hop
abbrev pub hopped : List ℕ → Tree → Tree
hopped hops t = with_member hops (int (pos (or_zero (member_as (as_unsigned 32) (find hops t)) + 1)) u64) t

abbrev pub route_name : Route → List ℕ
route_name Alerts = codes "alerts "
route_name News = codes "news "
route_name Other = codes "other "

-- of a message to news the member of each key that comes first, with one hop more; any other message as it came
abbrev pub sent : List ℕ → Route → Tree → Tree
sent hops Alerts t = t
sent hops News t = hopped hops (keep t)
sent hops Other t = t

-- the line that is written of a message
abbrev pub forwarded : List ℕ → List (List ℕ) → List ℕ → Tree → List ℕ
forwarded topic urgent hops t = (route_name (route topic urgent t) ++ compact (sent hops (route topic urgent t) t)) ++ line_feed ∷ []
