use Rattle.std.proofs.Common.{◌≡◌, ◌++◌, drop, string_bytes}
use Rattle.spawn_dev.specs.ShellText.{words_behind}
use Rattle.spawn_dev.proofs.shell.push_words.Given as goal

abbrev pub invariant-loop-word : goal.invariant-loop-word
invariant-loop-word l = string_bytes l.text ++ words_behind (drop l.word-index l.words) ≡ string_bytes l.initial.text ++ words_behind l.words
