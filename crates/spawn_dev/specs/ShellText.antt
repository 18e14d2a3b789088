-- The text by which a command's scripts run: POSIX shell command language, a line for each step.
use Rattle.std.specs.Prelude.{ℕ, zero, suc, ◌==◌, List, [], ◌∷◌, ◌++◌, length, if◌then◌else◌, codes, encode_utf8}
use Rattle.std.specs.List.{join_with_byte}
use Rattle.std.specs.Str.{chars}
use Rattle.rel_path.specs.Paths.{Path}
use Rattle.spawn_dev.specs.declared.command.Command.{Command}

-- the characters of a text inside single quotes: a quote closes them, stands behind a backslash and opens them again
abbrev pub escaped : List ℕ → List ℕ
escaped [] = []
escaped (c ∷ cs) = (if c == 39 then codes "'\\''" else encode_utf8 c) ++ escaped cs

-- the text as one word
abbrev pub quote : List ℕ → List ℕ
quote text = codes "'" ++ (escaped (chars text) ++ codes "'")

abbrev pub line : List ℕ → List ℕ
line text = text ++ 10 ∷ []

-- into the folder; nothing where that is the root
abbrev pub folder_line : Path → List ℕ
folder_line [] = []
folder_line (name ∷ names) = line (codes "cd " ++ (quote (codes "./" ++ join_with_byte 47 (name ∷ names)) ++ codes " || exit 127"))

-- the programs of packages installed so many folders up
abbrev pub programs : ℕ → List ℕ
programs zero = codes "node_modules/.bin"
programs (suc ups) = codes "../" ++ programs ups

-- those from the folder itself up to the root, where the folder lies so deep
abbrev pub search_path : ℕ → List ℕ
search_path zero = programs zero
search_path (suc depth) = search_path depth ++ (codes ":" ++ programs (suc depth))

-- these programs first, and then those of before
abbrev pub search_line : ℕ → List ℕ
search_line depth = line (codes "PATH=" ++ (search_path depth ++ codes "${PATH:+:$PATH}"))

abbrev pub script_line : List ℕ → List ℕ
script_line script = line (codes "sh -c " ++ (quote script ++ codes " || exit $?"))

-- words behind a script, each as one word
abbrev pub words_behind : List (List ℕ) → List ℕ
words_behind [] = []
words_behind (word ∷ words) = codes " " ++ (quote word ++ words_behind words)

-- scripts beside the task's own, of which an empty text stands for none
abbrev pub other_lines : List (List ℕ) → List ℕ
other_lines [] = []
other_lines ([] ∷ scripts) = other_lines scripts
other_lines ((b ∷ bs) ∷ scripts) = script_line (b ∷ bs) ++ other_lines scripts

-- The scripts in turn. The words follow the task's own, which is the first of fewer than three, and else the second.
abbrev pub script_lines : List (List ℕ) → List (List ℕ) → List ℕ
script_lines words [] = []
script_lines words (before ∷ own ∷ behind ∷ more) = other_lines (before ∷ []) ++ (script_line (own ++ words_behind words) ++ other_lines (behind ∷ more))
script_lines words (own ∷ more) = script_line (own ++ words_behind words) ++ other_lines more

-- the whole text
unfoldable pub shell_text_of : Command → List ℕ
shell_text_of command =
    line (codes "exec </dev/null 2>&1") ++
    (folder_line command.dir ++
    (search_line (length command.dir) ++
    (line (codes "export PATH") ++
    script_lines command.args command.scripts)))
