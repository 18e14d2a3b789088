-- Names of tasks, and the keys of `tasks`: `task` or `package#task` (Turborepo, "Configuring turbo.json", "tasks").
use Rattle.std.specs.Prelude.{ℕ, ◌==◌, ◌&&◌, ◌||◌, ◌++◌, Bool, true, false, not, if◌then◌else◌, List, [], ◌∷◌, Option, Some, None, unwrap_or, nat_lt, bytes_eq, codes}
use Rattle.std.specs.List.{list_any}
use Rattle.std.specs.Borrow.{Bor}
use Rattle.turbo_config.specs.declared.names.TheConstants.{HASH, DOLLAR, CARET, SPACE}

abbrev pub has_hash : List ℕ → Bool
has_hash text = list_any (λ b. b == HASH) text

-- the part behind the first `#`, if there is one
abbrev pub behind_hash : List ℕ → Option (List ℕ)
behind_hash [] = None
behind_hash (b ∷ bs) = if b == HASH then Some bs else behind_hash bs

-- the text that is there
abbrev pub text_behind : Option (Bor (List ℕ)) → Option (List ℕ)
text_behind None = None
text_behind (Some text) = Some text.now

-- the task of a key
abbrev pub task_of : List ℕ → List ℕ
task_of key = unwrap_or (behind_hash key) key

-- `package#task`
abbrev pub full_name : List ℕ → List ℕ → List ℕ
full_name pkg task = pkg ++ HASH ∷ task

-- the root among packages, none of which has this name
abbrev pub root_name : List ℕ
root_name = codes "//"

abbrev pub is_root_name : List ℕ → Bool
is_root_name pkg = bytes_eq pkg root_name

-- `#`, `$` and what is below the space
abbrev pub is_reserved : ℕ → Bool
is_reserved b = b == HASH || b == DOLLAR || nat_lt b SPACE

-- begins as what means a package's dependencies
abbrev pub begins_caret : List ℕ → Bool
begins_caret [] = false
begins_caret (b ∷ bs) = b == CARET

abbrev pub is_nothing : List ℕ → Bool
is_nothing [] = true
is_nothing (b ∷ bs) = false

-- a name that a task may have: not empty, without reserved characters, with no `^` in front
unfoldable pub is_task_name : List ℕ → Bool
is_task_name name = not (is_nothing name) && not (list_any is_reserved name) && not (begins_caret name)
