-- The faults of the readers as they are printed: each by its name, and behind it its fields.
use Rattle.std.specs.Prelude.{ℕ, List, ◌++◌, codes, decimal}
use Rattle.std.specs.Fmt.{signed_decimal}
use Rattle.json_view.specs.declared.error.Shape.{Shape}
use Rattle.json_view.specs.Shape.{word_of}
use Rattle.cli_words.specs.declared.error.WordsErr.{WordsErr}
use Rattle.cli_words.specs.declared.error.WordsErr.TheVariants as words
use Rattle.manifest.specs.declared.error.ManifestErr.{ManifestErr}
use Rattle.manifest.specs.declared.error.ManifestErr.TheVariants as manifest
use Rattle.lock_entries.specs.declared.error.LockErr.{LockErr}
use Rattle.lock_entries.specs.declared.error.LockErr.TheVariants as lock
use Rattle.glob_syntax.specs.declared.error.GlobErr.{GlobErr}
use Rattle.glob_syntax.specs.declared.error.GlobErr.TheVariants as glob
use Rattle.turbo_config.specs.declared.error.ConfigErr.{ConfigErr}
use Rattle.turbo_config.specs.declared.error.ConfigErr.TheVariants as config

abbrev pub kind_text : List ℕ → Shape → List ℕ
kind_text pointer wanted = codes "WrongKind " ++ (pointer ++ (codes " " ++ word_of wanted))

abbrev pub words_fault : WordsErr → List ℕ
words_fault (words.Unknown at) = codes "Unknown " ++ decimal at
words_fault words.NoTask = codes "NoTask"
words_fault (words.BadValue at) = codes "BadValue " ++ decimal at
words_fault (words.Twice at) = codes "Twice " ++ decimal at
words_fault words.OutOfMemory = codes "OutOfMemory"

abbrev pub manifest_fault : ManifestErr → List ℕ
manifest_fault manifest.NotJson = codes "NotJson"
manifest_fault manifest.NoName = codes "NoName"
manifest_fault (manifest.WrongKind pointer wanted) = kind_text pointer wanted
manifest_fault (manifest.OtherManager text) = codes "OtherManager " ++ text
manifest_fault manifest.OutOfMemory = codes "OutOfMemory"

abbrev pub lock_fault : LockErr → List ℕ
lock_fault lock.NotJson = codes "NotJson"
lock_fault (lock.WrongKind pointer wanted) = kind_text pointer wanted
lock_fault (lock.Version n) = codes "Version " ++ signed_decimal n
lock_fault (lock.Number pointer) = codes "Number " ++ pointer
lock_fault lock.OutOfMemory = codes "OutOfMemory"

abbrev pub glob_fault : GlobErr → List ℕ
glob_fault (glob.OpenClass at) = codes "OpenClass " ++ decimal at
glob_fault (glob.OpenBrace at) = codes "OpenBrace " ++ decimal at
glob_fault (glob.Nested at) = codes "Nested " ++ decimal at
glob_fault (glob.Climbs at) = codes "Climbs " ++ decimal at
glob_fault (glob.Wide at) = codes "Wide " ++ decimal at
glob_fault glob.OutOfMemory = codes "OutOfMemory"

abbrev pub config_fault : ConfigErr → List ℕ
config_fault config.Pipeline = codes "Pipeline"
config_fault (config.UnknownKey pointer) = codes "UnknownKey " ++ pointer
config_fault (config.WrongKind pointer wanted) = kind_text pointer wanted
config_fault (config.ForeignKey pointer) = codes "ForeignKey " ++ pointer
config_fault config.NoExtends = codes "NoExtends"
config_fault (config.TaskName pointer) = codes "TaskName " ++ pointer
config_fault (config.OpenComment at) = codes "OpenComment " ++ decimal at
config_fault config.NotJson = codes "NotJson"
config_fault (config.Glob pointer fault) = codes "Glob " ++ (pointer ++ (codes " " ++ glob_fault fault))
config_fault config.OutOfMemory = codes "OutOfMemory"
