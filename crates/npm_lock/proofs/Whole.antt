-- A part of a value without floats has none.
use Rattle.std.proofs.Common.{◌≡◌, ◌||◌, ℕ, Bool, true, false, List, Option, Some, refl, sym, ap, ◌∙◌, Ordering, Less, Equal, Greater, nat_cmp}
use Rattle.std.specs.Ordering.{match_ordering}
use Rattle.std.specs.Cmp.Lexicographic.{slice_cmp}
use Rattle.serde_json.specs.Data.{Data, null, boolean, number, string, array, object, Members, no_members, member}
use Rattle.serde_json.specs.Find.{get, get_member}
use Rattle.serde_json.specs.Written.{has_float, members_have_float}

neither : (a b : Bool) → (a || b) ≡ false → (a ≡ false) × (b ≡ false)
neither true b e = cc
neither false b e = (refl, e)

found : (o : Ordering) (rest : Option Data) (e d : Data) → match_ordering o rest (Some e) rest ≡ Some d → (rest ≡ Some d → has_float d ≡ false) → has_float e ≡ false → has_float d ≡ false
found Less rest e d is later here = later is
found Equal rest e d is later here = let same : e ≡ d = cc in ap has_float (sym same) ∙ here
found Greater rest e d is later here = later is

member_whole : (name : List ℕ) (ms : Members) (d : Data) → get_member name ms ≡ Some d → members_have_float ms ≡ false → has_float d ≡ false
member_whole name no_members d is whole = absurd (cc)
member_whole name (member k e ms) d is whole =
    let both = neither (has_float e) (members_have_float ms) whole in
    found (slice_cmp nat_cmp name k) (get_member name ms) e d is (λ h. member_whole name ms d h both.1) both.0

pub part_whole : (name : List ℕ) (p d : Data) → get name p ≡ Some d → has_float p ≡ false → has_float d ≡ false
part_whole name null d is whole = absurd (cc)
part_whole name (boolean b) d is whole = absurd (cc)
part_whole name (number n) d is whole = absurd (cc)
part_whole name (string s) d is whole = absurd (cc)
part_whole name (array ds) d is whole = absurd (cc)
part_whole name (object ms) d is whole = member_whole name ms d is whole
