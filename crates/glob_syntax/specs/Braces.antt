-- The first fault of the braces and classes of a glob, in the order of their places.
use Rattle.std.specs.Prelude.{◌+◌, ◌*◌, ℕ, Bool, true, false, ◌||◌, nat_lt, List, [], ◌∷◌, Option, Some, None, if◌then◌else◌}
use Rattle.rel_path.specs.Limits.{alternative_limit}
use Rattle.glob_syntax.specs.declared.error.GlobErr.{GlobErr}
use Rattle.glob_syntax.specs.declared.error.GlobErr.TheVariants as err
use Rattle.glob_syntax.specs.declared.token.Sign.{Sign}
use Rattle.glob_syntax.specs.declared.token.Sign.TheVariants as sign
use Rattle.glob_syntax.specs.declared.token.Token.{Token}

abbrev pub is_close : Sign → Bool
is_close sign.Open = false
is_close sign.Close = true
is_close sign.Comma = false
is_close sign.Slash = false
is_close sign.OpenClass = false
is_close (sign.Atom atom) = false

-- a `}` comes
abbrev pub has_close : List Token → Bool
has_close [] = false
has_close (token ∷ tokens) = is_close token.sign || has_close tokens

abbrev pub part_more : Sign → ℕ → ℕ
part_more sign.Open n = n
part_more sign.Close n = 1
part_more sign.Comma n = n + 1
part_more sign.Slash n = n
part_more sign.OpenClass n = n
part_more (sign.Atom atom) n = n

-- how many parts stand before the next `}`
abbrev pub parts_from : List Token → ℕ
parts_from [] = 1
parts_from (token ∷ tokens) = part_more token.sign (parts_from tokens)

-- the fault of a `{`, inside braces or outside, with so many alternatives before it, where it is closed or not and so many parts follow
abbrev pub open_fault : ℕ → Bool → ℕ → Bool → ℕ → (Bool → ℕ → Option GlobErr) → Option GlobErr
open_fault at true before closed parts later = Some (err.Nested at)
open_fault at false before false parts later = Some (err.OpenBrace at)
open_fault at false before true parts later = if nat_lt alternative_limit (before * parts) then Some (err.Wide at) else later true (before * parts)

-- the fault of a sign at a place, and else that of what follows, which stands inside braces or not behind so many alternatives
abbrev pub sign_fault : Sign → ℕ → Bool → ℕ → Bool → ℕ → (Bool → ℕ → Option GlobErr) → Option GlobErr
sign_fault sign.Open at inside before closed parts later = open_fault at inside before closed parts later
sign_fault sign.Close at inside before closed parts later = later false before
sign_fault sign.Comma at inside before closed parts later = later inside before
sign_fault sign.Slash at inside before closed parts later = later inside before
sign_fault sign.OpenClass at inside before closed parts later = Some (err.OpenClass at)
sign_fault (sign.Atom atom) at inside before closed parts later = later inside before

-- the first fault of what is left, which stands inside braces or not, behind so many alternatives
abbrev pub brace_fault : Bool → ℕ → List Token → Option GlobErr
brace_fault inside before [] = None
brace_fault inside before (token ∷ tokens) = sign_fault token.sign token.at inside before (has_close tokens) (parts_from tokens) (λ inside before. brace_fault inside before tokens)
