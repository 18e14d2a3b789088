-- What is read of an entry and of the members of `packages`.
use Rattle.std.proofs.Common.{◌≡◌, ◌⊎◌, ℕ, List, [], ◌∷◌, Option, Some, None, IsSome, Result, Ok, Err, refl, sym, ap, ◌∙◌, inl, inr, String, Global, string_bytes}
use Rattle.std.specs.Result.{IsErrAnd}
use Rattle.std.proofs.lemmas.Bool.{false≢true}
use Rattle.serde_json.specs.View.{view, members_view}
use Rattle.serde_json.specs.declared.value.Value.{Value}
use Rattle.json_view.specs.declared.error.Shape.{Shape}
use Rattle.json_view.specs.declared.error.JsonErr.{JsonErr}
use Rattle.json_view.specs.declared.error.JsonErr.TheVariants.{WrongKind, OutOfMemory}
use Rattle.json_view.specs.Pairs.{MayFail}
use Rattle.lock_entries.specs.declared.parts.Wrong.{Wrong}
use Rattle.lock_entries.specs.Entries.{then_by, or_wrong, entry_of, entries_of, wrongs_of, with_entry, with_wrong}
use Rattle.lock_entries.specs.Least.{lesser_by, least_by}
use Rattle.lock_entries.proofs.Least.{lesser_lesser}

-- what is there is passed on
pub checked : {A B : Type 0} (at : List ℕ) (shape : Shape) (o : Option A) (r : Result B JsonErr) → IsSome o → then_by (or_wrong at shape o) (λ _. r) ≡ r
checked at shape None r some = absurd (false≢true some)
checked at shape (Some a) r some = refl

wrong_kind : {A : Type 0} (e : JsonErr) (at : List ℕ) (shape : Shape) (meant : Result A JsonErr) → e ≡ WrongKind at shape → (e ≡ OutOfMemory) ⊎ (meant ≡ Err e) → meant ≡ Err (WrongKind at shape)
wrong_kind e at shape meant is (inl h) = absurd (cc)
wrong_kind e at shape meant is (inr h) = h ∙ ap Err is

-- an error that is passed on
pub may_fail : {A : Type 0} (result : Result A JsonErr) (e : JsonErr) (meant : Result A JsonErr) → IsErrAnd result (λ now. now ≡ e) → (e ≡ OutOfMemory) ⊎ (meant ≡ Err e) → MayFail meant result
may_fail (Ok a) e meant is h = absurd is
may_fail (Err now) e meant is (inl m) = inl (is ∙ m)
may_fail (Err now) e meant is (inr q) = inr (q ∙ ap Err (sym is))

abbrev lesser : Option Wrong → Option Wrong → Option Wrong
lesser = lesser_by (λ wrong. wrong.pointer)

abbrev least : List Wrong → Option Wrong
least = least_by (λ wrong. wrong.pointer)

module _ (es rest : List (String Global × Value)) (k : String Global) (v : Value) (at : List ℕ) (shape : Shape) (turn : es ≡ (k, v) ∷ rest)
    (location : List ℕ) (named : location ≡ string_bytes k) (e : JsonErr) (kind : e ≡ WrongKind at shape) (wrong : (e ≡ OutOfMemory) ⊎ (entry_of location (view v) ≡ Err e)) where
  is : entry_of (string_bytes k) (view v) ≡ Err (WrongKind at shape)
  is = ap (λ l. entry_of l (view v)) (sym named) ∙ wrong_kind e at shape _ kind wrong

  pub no_entry : entries_of (members_view rest) ≡ entries_of (members_view es)
  no_entry = ap (λ r. with_entry r (entries_of (members_view rest))) (sym is) ∙ ap (λ s. entries_of (members_view s)) (sym turn)

  one_wrong : least (wrongs_of (members_view es)) ≡ lesser (Some (record { pointer = at; wanted = shape })) (least (wrongs_of (members_view rest)))
  one_wrong = ap (λ s. least (wrongs_of (members_view s))) turn ∙ ap (λ r. least (with_wrong r (wrongs_of (members_view rest)))) is

  pub lesser_wrong : (so_far all : Option Wrong) (now : Wrong) → Some now ≡ lesser so_far (Some (record { pointer = at; wanted = shape }))
      → lesser so_far (least (wrongs_of (members_view es))) ≡ all → lesser (Some now) (least (wrongs_of (members_view rest))) ≡ all
  lesser_wrong so_far all now n h =
      ap (λ o. lesser o (least (wrongs_of (members_view rest)))) n ∙ sym (lesser_lesser (λ wrong. wrong.pointer) so_far _ _) ∙ ap (lesser so_far) (sym one_wrong) ∙ h

pub least_at_end : (so_far all : Option Wrong) {left : List (String Global × Value)} → left ≡ [] → lesser so_far (least (wrongs_of (members_view left))) ≡ all → so_far ≡ all
least_at_end so_far all over h = without so_far ∙ ap (λ s. lesser so_far (least (wrongs_of (members_view s)))) (sym over) ∙ h where
  without : (o : Option Wrong) → o ≡ lesser o None
  without None = refl
  without (Some w) = refl
