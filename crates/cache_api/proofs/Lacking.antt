-- Keys that pairs lack.
use Rattle.std.proofs.Common.{◌≡◌, ℕ, Bool, List, [], ◌∷◌, ◌++◌, None, refl, ap, ◌∙◌}
use Rattle.std.specs.Prelude.{if◌then◌else◌}
use Rattle.globs.specs.declared.out_set.OutSet.{OutSet}
use Rattle.cache_api.specs.Found.{if_owned, given, or_else, found}
use Rattle.cache_api.specs.Pairs.{Pair, LacksKey}
use Rattle.cache_api.specs.Reading.{Reader}

pub lacks_parts : (key : List ℕ) (pairs more : List Pair) → LacksKey key (pairs ++ more)
    → LacksKey key pairs × LacksKey key more
lacks_parts key [] more lacks = (tt, lacks)
lacks_parts key (pair ∷ pairs) more lacks =
    let (before, behind) = lacks_parts key pairs more lacks.1 in ((lacks.0, before), behind)

pub lacks_both : (key : List ℕ) (pairs more : List Pair) → LacksKey key pairs → LacksKey key more
    → LacksKey key (pairs ++ more)
lacks_both key [] more before behind = behind
lacks_both key (pair ∷ pairs) more before behind =
    (before.0, lacks_both key pairs more before.1 behind)

none_found : (read : Reader) (key : List ℕ) (outs : OutSet) (pairs : List Pair)
    → LacksKey key pairs → found read key outs pairs ≡ None
none_found read key outs [] lacks = refl
none_found read key outs (pair ∷ pairs) lacks =
    ap (λ o. or_else o (given read key outs pair)) (none_found read key outs pairs lacks.1)
    ∙ ap (λ (b : Bool). if b then if_owned outs (read pair.1) else None) lacks.0

-- pairs that have another key give nothing
pub found_lacking : (read : Reader) (key : List ℕ) (outs : OutSet) (pairs more : List Pair)
    → LacksKey key more → found read key outs (pairs ++ more) ≡ found read key outs pairs
found_lacking read key outs [] more lacks = none_found read key outs more lacks
found_lacking read key outs (pair ∷ pairs) more lacks =
    ap (λ o. or_else o (given read key outs pair)) (found_lacking read key outs pairs more lacks)
