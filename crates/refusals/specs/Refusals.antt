-- The line that is printed in the place of a run, and the line of a device that failed.
use Rattle.std.specs.Prelude.{ℕ, List, ◌++◌, codes, decimal}
use Rattle.rel_path.specs.Limits.{count_limit}
use Rattle.page.specs.Tasks.{path_text, task_name, joined}
use Rattle.refusals.specs.Faults.{words_fault, manifest_fault, lock_fault, glob_fault, config_fault}
use Rattle.refusals.specs.declared.refusal.Refusal.{Refusal}
use Rattle.refusals.specs.declared.refusal.Refusal.TheVariants.{Words, NoManifest, Manifest, Lock}
use Rattle.refusals.specs.declared.refusal.Refusal.TheVariants.{TooDeep, TooMany, Inside, NameTwice}
use Rattle.refusals.specs.declared.refusal.Refusal.TheVariants.{Config, Glob, Filter, NoPackage}
use Rattle.refusals.specs.declared.refusal.Refusal.TheVariants.{NoSuchTask, NoSuchDependency, Cycle}
use Rattle.refusals.specs.declared.refusal.Refusal.TheVariants.{Persistent, LockMissing, TooLarge}
use Rattle.refusals.specs.declared.refusal.Refusal.TheVariants.{TooMuch, NotAStore, Damaged}
use Rattle.refusals.specs.declared.refusal.Refusal.TheVariants.{OutTaken, NoRoom, LastGeneration}
use Rattle.refusals.specs.declared.refusal.StoreFile.{StoreFile}
use Rattle.refusals.specs.declared.refusal.StoreFile.TheVariants as file
use Rattle.refusals.specs.declared.refusal.DeviceFault.{DeviceFault}
use Rattle.refusals.specs.declared.refusal.DeviceFault.TheVariants as device

-- what the file of a store is called
abbrev pub file_word : StoreFile → List ℕ
file_word file.Store = codes "store"
file_word file.Spare = codes "spare"
file_word file.Second = codes "remote"
file_word file.Shared = codes "shared"

-- what the store in it is called
abbrev pub store_words : StoreFile → List ℕ
store_words file.Store = codes "store"
store_words file.Spare = codes "spare store"
store_words file.Second = codes "remote store"
store_words file.Shared = codes "shared store"

abbrev pub refusal_text : Refusal → List ℕ
refusal_text (Words fault) = codes "words: " ++ words_fault fault
refusal_text NoManifest = codes "package.json is missing"
refusal_text (Manifest path fault) = path_text path ++ (codes ": " ++ manifest_fault fault)
refusal_text (Lock fault) = codes "package-lock.json: " ++ lock_fault fault
refusal_text (TooDeep path) = codes "too deep: " ++ path_text path
refusal_text TooMany = codes "more than " ++ (decimal count_limit ++ codes " files")
refusal_text (Inside outer inner) =
    codes "package " ++ (path_text inner ++ (codes " lies inside " ++ path_text outer))
refusal_text (NameTwice name first second) = codes "name " ++ (name
    ++ (codes " in " ++ (path_text first ++ (codes " and " ++ path_text second))))
refusal_text (Config path fault) = path_text path ++ (codes ": " ++ config_fault fault)
refusal_text (Glob path pointer fault) =
    path_text path ++ (codes ": " ++ (pointer ++ (codes ": " ++ glob_fault fault)))
refusal_text (Filter word) = codes "filter: " ++ word
refusal_text (NoPackage name) = codes "no package " ++ name
refusal_text (NoSuchTask name) = codes "no task " ++ name
refusal_text (NoSuchDependency task text) = task_name task ++ (codes ": no dependency " ++ text)
refusal_text (Cycle tasks) = codes "cycle: " ++ joined (codes " -> ") tasks
refusal_text (Persistent task) = codes "persistent task " ++ task_name task
refusal_text (LockMissing from name) =
    codes "lock: " ++ (name ++ (codes " not found from " ++ from))
refusal_text (TooLarge path) = codes "too large: " ++ path_text path
refusal_text (TooMuch bytes) = codes "inputs too large: " ++ decimal bytes
refusal_text (NotAStore file) = codes "the " ++ (file_word file ++ codes " file is no store")
refusal_text (Damaged file at) =
    codes "the " ++ (store_words file ++ (codes " is damaged at " ++ decimal at))
refusal_text (OutTaken path) = codes "already there: " ++ path_text path
refusal_text (NoRoom need free) =
    codes "no room: " ++ (decimal need ++ (codes " needed, " ++ (decimal free ++ codes " free")))
refusal_text LastGeneration = codes "last generation"

abbrev pub line_of : List ℕ → List ℕ
line_of text = codes "turbo: " ++ (text ++ codes "\n")

abbrev pub device_fault_line : DeviceFault → List ℕ
device_fault_line device.Tree = line_of (codes "a file could not be read or written")
device_fault_line device.Store = line_of (codes "the store failed")
device_fault_line device.Start = line_of (codes "a command could not be started or waited for")
