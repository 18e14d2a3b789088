-- What is found for the items of a list, one after another.
use Rattle.std.proofs.Common.{◌≡◌, ℕ, ◌+◌, ◌<◌, length, get_or, take, List, [], ◌∷◌, ◌++◌, refl, sym, ap, ◌∙◌}
use Rattle.std.specs.Prelude.{Option, Some, None, option_to_list}
use Rattle.std.specs.List.{filter_map, cons_option}
use Rattle.std.proofs.lemmas.List.{take_more}
use Rattle.std.proofs.lemmas.List.Elements.{filter_map-append}

-- one more
filter_map_more : {X Y : Type 0} (f : X → Option Y) (xs : List X) (i : ℕ) (x : X) → i < length xs → x ≡ get_or xs i x → filter_map f (take (i + 1) xs) ≡ filter_map f (take i xs) ++ option_to_list (f x)
filter_map_more f xs i x less is =
    ap (filter_map f) (take_more xs i x less) ∙ filter_map-append f (take i xs) (get_or xs i x ∷ []) ∙ ap (λ y. filter_map f (take i xs) ++ cons_option (f y) []) (sym is) ∙ ap (λ ys. filter_map f (take i xs) ++ ys) (none (f x))
  where
    none : {Y : Type 0} (o : Option Y) → cons_option o [] ≡ option_to_list o
    none None = refl
    none (Some y) = refl

-- what was found for one more is put at the end
pub added : {X Y : Type 0} (f : X → Option Y) (xs : List X) (i : ℕ) (x : X) (found : Option Y) (old new : List Y) → i < length xs → x ≡ get_or xs i x → old ≡ filter_map f (take i xs) → found ≡ f x → new ≡ old ++ option_to_list found → new ≡ filter_map f (take (i + 1) xs)
added f xs i x found old new less is before value more = more ∙ ap (λ ys. ys ++ option_to_list found) before ∙ ap (λ o. filter_map f (take i xs) ++ option_to_list o) value ∙ sym (filter_map_more f xs i x less is)
