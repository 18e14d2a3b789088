use Rattle.std.proofs.Common.{◌≡◌, drop, take, map, Some}
use Rattle.filters.specs.Words.{filter_of}
use Rattle.filters.specs.Selection.{words_fault}
use Rattle.filters.proofs.selection.checked_filters.Given as goal

abbrev pub invariant-loop-word : goal.invariant-loop-word
invariant-loop-word l = record {
  written : map filter_of (take l.word-index l.words) ≡ map (λ filter. Some filter) l.filters.items;
  faultless : words_fault l.packages.packages l.words ≡ words_fault l.packages.packages (drop l.word-index l.words);
}
