-- Keys and what is to be put under them, without where they lie in memory.
use Rattle.std.specs.Prelude.{ℕ, List, map}
use Rattle.cache_api.specs.declared.artifact.Artifact.{Artifact as Held}
use Rattle.cache_api.specs.declared.key.Key.{Key}
use Rattle.cache_api.specs.declared.key.OwnKey.{OwnKey}
use Rattle.cache_api.specs.declared.puts.NewPair.{NewPair}
use Rattle.cache_api.specs.Artifacts.{artifact}
use Rattle.cache_api.specs.Pairs.{Pair, pair_for}

abbrev pub text_of : Key → List ℕ
text_of key = key.text.now

abbrev pub own_text : OwnKey → List ℕ
own_text key = key.text

-- the pair that is handed over
abbrev pub own_pair : OwnKey → Held → Pair
own_pair key a = pair_for (own_text key) (artifact a)

-- the pairs that are to be put
abbrev pub new_pairs : List NewPair → List Pair
new_pairs pairs = map (λ p. pair_for (text_of p.key) (artifact p.artifact.now)) pairs
