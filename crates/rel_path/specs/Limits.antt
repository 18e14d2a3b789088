-- The limits of the program, each as the constant says it.
use Rattle.std.specs.Prelude.{ℕ}
use Rattle.rel_path.specs.declared.limits.TheConstants.{MAX_FILE_BYTES, MAX_INPUT_BYTES, MAX_LOG_BYTES, MAX_STORE_BYTES, MAX_COMPONENTS, MAX_FILES, MAX_ALTERNATIVES, MAX_WIDTH}

-- bytes of a file that is read whole
abbrev pub file_limit : ℕ
file_limit = MAX_FILE_BYTES

-- bytes of all distinct input files together
abbrev pub sum_limit : ℕ
sum_limit = MAX_INPUT_BYTES

-- bytes of a command's log
abbrev pub log_limit : ℕ
log_limit = MAX_LOG_BYTES

-- bytes of the store's file
abbrev pub store_limit : ℕ
store_limit = MAX_STORE_BYTES

-- components of a walked path
abbrev pub component_limit : ℕ
component_limit = MAX_COMPONENTS

-- files of a repository
abbrev pub count_limit : ℕ
count_limit = MAX_FILES

-- alternatives of a glob
abbrev pub alternative_limit : ℕ
alternative_limit = MAX_ALTERNATIVES

-- commands that run at once
abbrev pub width_limit : ℕ
width_limit = MAX_WIDTH
