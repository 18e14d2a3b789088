-- What reading characters as a glob answers.
use Rattle.std.specs.Prelude.{◌≡◌, ◌⊎◌, ℕ, List, map, Option, None, Some}
use Rattle.glob_syntax.specs.declared.token.Token.{Token}
use Rattle.glob_syntax.specs.declared.error.GlobErr.{GlobErr}
use Rattle.glob_syntax.specs.declared.error.GlobErr.TheVariants as err
use Rattle.glob_syntax.specs.declared.part.Part.{Part}
use Rattle.glob_syntax.specs.Marks.{marks_of}
use Rattle.glob_syntax.specs.Tokens.{tokens_of}
use Rattle.glob_syntax.specs.Pieces.{alternatives_of}
use Rattle.glob_syntax.specs.Parts.{parts_of}
use Rattle.glob_syntax.specs.Faults.{pieces_in, first_fault}

-- the tokens of characters, the first of which has this place
abbrev pub tokens_at : ℕ → List ℕ → List Token
tokens_at start cs = tokens_of None (marks_of start cs)

-- why these characters are no glob, the first of which has this place
unfoldable pub fault_at : ℕ → List ℕ → Option GlobErr
fault_at start cs = first_fault (tokens_at start cs)

-- the glob that the characters write: its alternatives, each as its parts
unfoldable pub glob_from : ℕ → List ℕ → List (List Part)
glob_from start cs = map parts_of (alternatives_of (pieces_in (tokens_at start cs)))

-- an error is the fault, or want of memory, which may come at any time
abbrev pub MayRefuse : Option GlobErr → GlobErr → Type 0
MayRefuse fault e = (e ≡ err.OutOfMemory) ⊎ (fault ≡ Some e)
