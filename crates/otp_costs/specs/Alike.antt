-- Which children of a supervisor are taken together (own).
use Rattle.std.specs.Prelude.{Bool, true, false, not, ◌&&◌, ◌==◌, if◌then◌else◌}
use Rattle.std.specs.Ordering.{on}
use Rattle.std.specs.Str.{bytes_eq}
use Rattle.otp_reason.specs.Names.{name_bytes}
use Rattle.otp_spec.specs.Words.{restart_word, type_word}
use Rattle.otp_spec.specs.declared.child.ChildSpec.{ChildSpec}
use Rattle.otp_spec.specs.declared.flags.Strategy.{Strategy}
use Rattle.otp_spec.specs.declared.flags.Strategy.TheVariants.{OneForOne, OneForAll, RestForOne, SimpleOneForOne}
use Rattle.otp_costs.specs.declared.alike.Weighed.{Weighed}
use Rattle.otp_costs.specs.declared.alike.Grain.{Grain}
use Rattle.otp_costs.specs.declared.alike.Grain.TheVariants.{Alike, Each}

-- both or neither
abbrev pub agree : Bool → Bool → Bool
agree one other = if one then other else not other

-- they have the same restart type, are both significant or both not, and are of the same type. How long each may take to end
-- makes no difference where each ends at once.
abbrev pub is_same_kind : ChildSpec → ChildSpec → Bool
is_same_kind a b =
    bytes_eq (restart_word a.restart) (restart_word b.restart)
    && agree a.significant b.significant
    && bytes_eq (type_word a.kind) (type_word b.kind)

-- under rest_for_one a crash stops what was started later, so there each place is another
unfoldable pub has_no_places : Strategy → Bool
has_no_places OneForOne = true
has_no_places OneForAll = true
has_no_places RestForOne = false
has_no_places SimpleOneForOne = true

-- whether children of a supervisor of this strategy are taken together that are alike
unfoldable pub takes_together : Grain → Strategy → Bool
takes_together Alike strategy = has_no_places strategy
takes_together Each strategy = false

-- whether the second is taken together with the first: as many processes stand below it
unfoldable pub is_alike : Grain → Strategy → Weighed → Weighed → Bool
is_alike grain strategy a b =
    if takes_together grain strategy then is_same_kind a.spec b.spec && (a.below == b.below) else on name_bytes bytes_eq a.spec.id b.spec.id
