-- The bounds that a comparator stands for (node-semver's documentation, "Advanced Range Syntax" and "Comparators").
use Rattle.std.specs.Prelude.{ℕ, ◌+◌, Bool, false, not, ◌==◌, List, [], ◌∷◌, length, if◌then◌else◌, codes}
use Rattle.npm_range.specs.declared.limit.Relation.{Relation}
use Rattle.npm_range.specs.declared.limit.Relation.TheVariants as relation
use Rattle.npm_range.specs.declared.comparator.Operator.{Operator}
use Rattle.npm_range.specs.declared.comparator.Operator.TheVariants as operator
use Rattle.npm_range.specs.declared.comparator.Numbers.{Numbers}
use Rattle.npm_range.specs.declared.comparator.Numbers.TheVariants.{Any, Major, Minor, Full}
use Rattle.npm_range.specs.Limits.{Release, Bound}

-- the version of these numbers that is no pre-release
abbrev pub final : ℕ → ℕ → ℕ → Release
final a b c = (a, b, c, [])

-- the pre-release `0` of these numbers, before which none of them comes
abbrev pub least : ℕ → ℕ → ℕ → Release
least a b c = (a, b, c, codes "0")

-- a bound that the table gives
abbrev pub given : Relation → Release → List Bound
given relation release = record { relation = relation; release = release; tagged = false } ∷ []

-- a bound that the text gives
abbrev pub written : Relation → Release → List Bound
written relation release = record { relation = relation; release = release; tagged = not (length release.3 == 0) } ∷ []

abbrev pub from : Release → List Bound
from release = given relation.From release

abbrev pub below : Release → List Bound
below release = given relation.Below release

-- from the one and below the other
abbrev pub between : Release → Release → List Bound
between low high = record { relation = relation.From; release = low; tagged = false } ∷ record { relation = relation.Below; release = high; tagged = false } ∷ []

-- from the one, as it is written, and below the other
abbrev pub up_from : Release → Release → List Bound
up_from low high = record { relation = relation.From; release = low; tagged = not (length low.3 == 0) } ∷ record { relation = relation.Below; release = high; tagged = false } ∷ []

-- no version
abbrev pub none : List Bound
none = below (least 0 0 0)

-- `1.2.3` and `=1.2.3`; `1.2`, `1.2.x` and `1` are X-ranges
abbrev pub equal : Numbers → List ℕ → List Bound
equal Any pre = []
equal (Major a) pre = between (final a 0 0) (least (a + 1) 0 0)
equal (Minor a b) pre = between (final a b 0) (least a (b + 1) 0)
equal (Full a b c) pre = written relation.Exactly (a, b, c, pre)

-- `~1.2.3`: the patch may rise
abbrev pub tilde : Numbers → List ℕ → List Bound
tilde Any pre = []
tilde (Major a) pre = between (final a 0 0) (least (a + 1) 0 0)
tilde (Minor a b) pre = between (final a b 0) (least a (b + 1) 0)
tilde (Full a b c) pre = up_from (a, b, c, pre) (least a (b + 1) 0)

-- what the first number that is not zero keeps below
abbrev pub kept_two : ℕ → ℕ → Release
kept_two a b = if a == 0 then least 0 (b + 1) 0 else least (a + 1) 0 0

abbrev pub kept_three : ℕ → ℕ → ℕ → Release
kept_three a b c = if a == 0 then (if b == 0 then least 0 0 (c + 1) else least 0 (b + 1) 0) else least (a + 1) 0 0

-- `^1.2.3`: what stands right of the first number that is not zero may rise
abbrev pub caret : Numbers → List ℕ → List Bound
caret Any pre = []
caret (Major a) pre = between (final a 0 0) (least (a + 1) 0 0)
caret (Minor a b) pre = between (final a b 0) (kept_two a b)
caret (Full a b c) pre = up_from (a, b, c, pre) (kept_three a b c)

abbrev pub above : Numbers → List ℕ → List Bound
above Any pre = none
above (Major a) pre = from (final (a + 1) 0 0)
above (Minor a b) pre = from (final a (b + 1) 0)
above (Full a b c) pre = written relation.Above (a, b, c, pre)

abbrev pub at_least : Numbers → List ℕ → List Bound
at_least Any pre = []
at_least (Major a) pre = from (final a 0 0)
at_least (Minor a b) pre = from (final a b 0)
at_least (Full a b c) pre = written relation.From (a, b, c, pre)

abbrev pub under : Numbers → List ℕ → List Bound
under Any pre = none
under (Major a) pre = below (least a 0 0)
under (Minor a b) pre = below (least a b 0)
under (Full a b c) pre = written relation.Below (a, b, c, pre)

abbrev pub at_most : Numbers → List ℕ → List Bound
at_most Any pre = []
at_most (Major a) pre = below (least (a + 1) 0 0)
at_most (Minor a b) pre = below (least a (b + 1) 0)
at_most (Full a b c) pre = written relation.UpTo (a, b, c, pre)

-- the bounds of an operator with the numbers and the pre-release behind it
unfoldable pub bounds : Operator → Numbers → List ℕ → List Bound
bounds operator.Equal numbers pre = equal numbers pre
bounds operator.Tilde numbers pre = tilde numbers pre
bounds operator.Caret numbers pre = caret numbers pre
bounds operator.Above numbers pre = above numbers pre
bounds operator.AtLeast numbers pre = at_least numbers pre
bounds operator.Below numbers pre = under numbers pre
bounds operator.AtMost numbers pre = at_most numbers pre
