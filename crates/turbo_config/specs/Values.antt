-- Values of the kinds that a turbo.json has, where one stands at a pointer (RFC 6901).
use Rattle.std.specs.Prelude.{ℕ, if◌then◌else◌, List, Option, Some, None, bytes_eq, codes, Bool, Result, Ok}
use Rattle.serde_json.specs.Data.{Data, Members}
use Rattle.serde_json.specs.Find.{as_bool, as_str, as_object}
use Rattle.json_view.specs.declared.error.Shape.{Shape}
use Rattle.json_view.specs.declared.error.Shape.TheVariants as shape
use Rattle.json_view.specs.Look.{as_texts}
use Rattle.env_select.specs.declared.choose.EnvMode.{EnvMode}
use Rattle.env_select.specs.declared.choose.EnvMode.TheVariants.{Strict, Loose}
use Rattle.turbo_config.specs.declared.glob_fault.ListKind.{ListKind}
use Rattle.turbo_config.specs.declared.error.ConfigErr.{ConfigErr}
use Rattle.turbo_config.specs.declared.error.ConfigErr.TheVariants.{WrongKind}
use Rattle.turbo_config.specs.declared.entry.LogMode.{LogMode}
use Rattle.turbo_config.specs.declared.entry.LogMode.TheVariants.{Full, HashOnly, NewOnly, ErrorsOnly, Silent}
use Rattle.turbo_config.specs.Answers.{◌>>=◌, unless, or_fault}
use Rattle.turbo_config.specs.Globs.{fault_of, first_glob_fault}

-- the value seen as a kind, or WrongKind
abbrev pub seen_as : {A : Type 0} → Shape → (Data → Option A) → List ℕ → Data → Result A ConfigErr
seen_as wanted kind at d = or_fault (WrongKind at wanted) (kind d)

unfoldable pub flag_at : List ℕ → Data → Result Bool ConfigErr
flag_at at d = seen_as shape.Flag as_bool at d

unfoldable pub text_at : List ℕ → Data → Result (List ℕ) ConfigErr
text_at at d = seen_as shape.Text as_str at d

unfoldable pub texts_at : List ℕ → Data → Result (List (List ℕ)) ConfigErr
texts_at at d = seen_as shape.Texts as_texts at d

unfoldable pub members_at : List ℕ → Data → Result Members ConfigErr
members_at at d = seen_as shape.Object as_object at d

-- texts, each an entry of that kind
unfoldable pub list_at : ListKind → List ℕ → Data → Result (List (List ℕ)) ConfigErr
list_at kind at d = do
  texts ← texts_at at d
  unless (first_glob_fault (fault_of kind) at 0 texts) (Ok texts)

-- a text that is one of some words, with what the word stands for
abbrev pub choice_at : {A : Type 0} → (List ℕ → Option A) → List ℕ → Data → Result A ConfigErr
choice_at meaning at d = do
  word ← text_at at d
  or_fault (WrongKind at shape.Choice) (meaning word)

-- one of the words of `outputLogs`
abbrev pub log_mode_of : List ℕ → Option LogMode
log_mode_of word =
    if bytes_eq word (codes "full") then Some Full else
    (if bytes_eq word (codes "hash-only") then Some HashOnly else
    (if bytes_eq word (codes "new-only") then Some NewOnly else
    (if bytes_eq word (codes "errors-only") then Some ErrorsOnly else
    (if bytes_eq word (codes "none") then Some Silent else None))))

unfoldable pub log_mode_at : List ℕ → Data → Result LogMode ConfigErr
log_mode_at at d = choice_at log_mode_of at d

-- one of the words of `envMode`
abbrev pub env_mode_of : List ℕ → Option EnvMode
env_mode_of word =
    if bytes_eq word (codes "strict") then Some Strict else
    (if bytes_eq word (codes "loose") then Some Loose else None)

unfoldable pub env_mode_at : List ℕ → Data → Result EnvMode ConfigErr
env_mode_at at d = choice_at env_mode_of at d
