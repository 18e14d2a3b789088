-- Look-ups in lists behind one another.
use Rattle.cache_api.specs.declared.error.CacheErr.{CacheErr}
use Rattle.relay_store.specs.Devices.{IsFound}
use Rattle.std.proofs.Common.{◌≡◌, ◌≢◌, ◌⊎◌, ⊎_elim, ℕ, List, [], ◌∷◌, ◌++◌, Option, Some, None}
use Rattle.std.proofs.Common.{Ok, Err, refl, sym, ◌∙◌, ap, append_assoc}
use Rattle.std.specs.Prelude.{Result, IfOk, IfSome}
use Rattle.codes.specs.Views.{found_as}
use Rattle.cache_api.specs.declared.hit.Hit.{Hit}
use Rattle.globs.specs.declared.out_set.OutSet.{OutSet}
use Rattle.cache_api.specs.Artifacts.{Artifact}
use Rattle.cache_api.specs.Reading.{Reader}
use Rattle.cache_api.specs.Pairs.{Pair}
use Rattle.cache_api.specs.Found.{given, or_else, found}

else_none : (a : Option Artifact) → or_else a None ≡ a
else_none None = refl
else_none (Some a) = refl

else_else : (a b d : Option Artifact) → or_else (or_else a b) d ≡ or_else a (or_else b d)
else_else None b d = refl
else_else (Some a) b d = refl

-- the list that stands last is asked first
pub found_append : (read : Reader) (key : List ℕ) (outs : OutSet) (p q : List Pair)
    → found read key outs (p ++ q) ≡ or_else (found read key outs q) (found read key outs p)
found_append read key outs [] q = sym (else_none (found read key outs q))
found_append read key outs (x ∷ p) q =
    ap (λ (o : Option Artifact). or_else o (given read key outs x))
    (found_append read key outs p q)
    ∙ else_else (found read key outs q) (found read key outs p) (given read key outs x)

-- the list that stands last finds it
pub found_last : (read : Reader) (key : List ℕ) (outs : OutSet) (p q : List Pair) (a : Artifact)
    → found read key outs q ≡ Some a → found read key outs (p ++ q) ≡ Some a
found_last read key outs p q a is =
    found_append read key outs p q
    ∙ ap (λ (o : Option Artifact). or_else o (found read key outs p)) is

-- where nothing is found in it, the other decides
pub found_first : (read : Reader) (key : List ℕ) (outs : OutSet) (p q : List Pair)
    → found read key outs q ≡ None → found read key outs (p ++ q) ≡ found read key outs p
found_first read key outs p q is =
    found_append read key outs p q
    ∙ ap (λ (o : Option Artifact). or_else o (found read key outs p)) is

none_by : (a b : Option Artifact) → or_else a b ≡ None → a ≡ None
none_by None b e = refl
none_by (Some a) b e = absurd (cc)

-- nothing is found in the end of a list in which nothing is found
pub none_behind : (read : Reader) (key : List ℕ) (outs : OutSet) (p q : List Pair)
    → found read key outs (p ++ q) ≡ None → found read key outs q ≡ None
none_behind read key outs p q e =
    none_by (found read key outs q) (found read key outs p)
    (sym (found_append read key outs p q) ∙ e)

-- ---- pairs in between that give nothing more

mid_by : (a b m : Option Artifact) → (a ≡ None → m ≡ None) → or_else a (or_else m b) ≡ or_else a b
mid_by None b m none = ap (λ (o : Option Artifact). or_else o b) (none refl)
mid_by (Some a) b m none = refl

-- where there are none, or those with which the list ends that is asked first
pub found_mid : (read : Reader) (key : List ℕ) (outs : OutSet) (front mid last ends : List Pair)
    → (mid ≡ []) ⊎ (mid ≡ ends)
    → found read key outs ((front ++ mid) ++ (last ++ ends))
    ≡ found read key outs ((front ++ last) ++ ends)
found_mid read key outs front mid last ends is =
    let none : found read key outs (last ++ ends) ≡ None → found read key outs mid ≡ None =
    λ e. ⊎_elim (λ nil. ap (found read key outs) nil)
    (λ same. ap (found read key outs) same ∙ none_behind read key outs last ends e) is in
    found_append read key outs (front ++ mid) (last ++ ends)
    ∙ ap (or_else (found read key outs (last ++ ends))) (found_append read key outs front mid)
    ∙ mid_by (found read key outs (last ++ ends)) (found read key outs front)
    (found read key outs mid) none
    ∙ sym (found_append read key outs front (last ++ ends))
    ∙ ap (found read key outs) (sym (append_assoc front last ends))

-- ---- what is shown of what was found

pub shown_same : {E : Type 0} (r : Result (Option Hit) E) (side : ℕ) (f show : Hit → Artifact)
    (x y : Option Artifact)
    → IfOk r (λ o. found_as f o ≡ x) → x ≡ y → IfOk r (λ o. IfSome o (λ hit. hit.side ≡ side))
    → ((hit : Hit) → hit.side ≡ side → show hit ≡ f hit) → IfOk r (λ o. found_as show o ≡ y)
shown_same (Ok (Some hit)) side f show x y is same at to =
    ap (λ (a : Artifact). Some a) (to hit at) ∙ is ∙ same
shown_same (Ok None) side f show x y is same at to = is ∙ same
shown_same (Err e) side f show x y is same at to = tt

-- ---- what is found of one store

-- a hit of the other store, where this one, which was asked first, has none
pub found_other : (r : Result (Option Hit) CacheErr) (side other : ℕ) (A : Type 0)
    (show : Hit → Artifact) (gives : Option Artifact) → side ≢ other → gives ≡ None
    → IfOk r (λ o. IfSome o (λ hit. hit.side ≡ other)) → IfOk r (IsFound side A show gives)
found_other (Ok (Some hit)) side other A show gives apart is at = record {
  hit = λ here. absurd (apart (sym here ∙ at));
  none = λ e. is;
  first = λ asked a e. absurd (cc);
}
found_other (Ok None) side other A show gives apart is at = record {
  hit = tt;
  none = λ e. is;
  first = λ asked a e. absurd (cc);
}
found_other (Err e) side other A show gives apart is at = tt

-- what this store has, which was asked after the other one
pub found_own : (r : Result (Option Hit) CacheErr) (side : ℕ) (show : Hit → Artifact)
    (gives : Option Artifact) → IfOk r (λ o. found_as show o ≡ gives)
    → IfOk r (IsFound side ⊥ show gives)
found_own (Ok (Some hit)) side show gives is = record {
  hit = λ here. sym is;
  none = λ e. absurd (cc);
  first = λ asked. absurd asked;
}
found_own (Ok None) side show gives is = record {
  hit = tt;
  none = λ e. sym is;
  first = λ asked. absurd asked;
}
found_own (Err e) side show gives is = tt

-- said of fewer
pub found_when : (r : Result (Option Hit) CacheErr) (side : ℕ) (A B : Type 0)
    (show : Hit → Artifact) (gives : Option Artifact) → (B → A)
    → IfOk r (IsFound side A show gives) → IfOk r (IsFound side B show gives)
found_when (Ok o) side A B show gives to x = record {
  hit = x.hit;
  none = x.none;
  first = λ asked. x.first (to asked);
}
found_when (Err e) side A B show gives to x = tt
