-- Members of which nothing is wrong.
use Rattle.std.proofs.Common.{◌≡◌, ℕ, Bool, true, false, cond, List, [], ◌∷◌, Option, Some, None, Result, Ok, Err, refl, ap, ◌∙◌}
use Rattle.std.specs.Ordering.{is_gt}
use Rattle.serde_json.specs.Data.{Data, Members, no_members, member}
use Rattle.json_view.specs.declared.error.JsonErr.{JsonErr}
use Rattle.json_view.specs.declared.error.JsonErr.TheVariants.{NotJson, WrongKind, OpenComment, OutOfMemory}
use Rattle.rel_path.specs.Paths.{name_cmp}
use Rattle.lock_entries.specs.declared.entry.Entry.{Entry}
use Rattle.lock_entries.specs.declared.parts.Wrong.{Wrong}
use Rattle.lock_entries.specs.Entries.{entry_of, wrongs_of, with_wrong, least_wrong}
use Rattle.lock_entries.specs.Least.{least_by, lesser_by}
use Rattle.lock_entries.specs.Lockfile.{wrong_of}

lesser_some : {A : Type 0} (b : Bool) (x y : A) → cond b (Some y) (Some x) ≡ None → ⊥
lesser_some true x y e = cc
lesser_some false x y e = cc

some_lesser : {A : Type 0} (pointer : A → List ℕ) (x : A) (o : Option A) → lesser_by pointer (Some x) o ≡ None → ⊥
some_lesser pointer x None e = cc
some_lesser pointer x (Some y) e = lesser_some (is_gt (name_cmp (pointer x) (pointer y))) x y e

-- only of nothing there is no least
pub none_least : {A : Type 0} (pointer : A → List ℕ) (xs : List A) → least_by pointer xs ≡ None → xs ≡ []
none_least pointer [] e = refl
none_least pointer (x ∷ xs) e = absurd (some_lesser pointer x (least_by pointer xs) e)

wrong_none : (o : Option Wrong) → wrong_of o ≡ None → o ≡ None
wrong_none None e = refl
wrong_none (Some w) e = absurd (cc)

pub refused_none : (ms : Members) → wrong_of (least_wrong ms) ≡ None → wrongs_of ms ≡ []
unfolding least_wrong
refused_none ms e = none_least (λ (w : Wrong). w.pointer) (wrongs_of ms) (wrong_none (least_by (λ w. w.pointer) (wrongs_of ms)) e)

pub none_refused : (ms : Members) → wrongs_of ms ≡ [] → wrong_of (least_wrong ms) ≡ None
unfolding least_wrong
none_refused ms e = ap (λ ws. wrong_of (least_by (λ w. w.pointer) ws)) e

split_with : (r : Result Entry JsonErr) (ws : List Wrong) → with_wrong r ws ≡ [] → (with_wrong r [] ≡ []) × (ws ≡ [])
split_with (Ok e) ws h = (refl, h)
split_with (Err NotJson) ws h = (refl, h)
split_with (Err (WrongKind at shape)) ws h = absurd (cc)
split_with (Err (OpenComment at)) ws h = (refl, h)
split_with (Err OutOfMemory) ws h = (refl, h)

pub split_wrongs : (k : List ℕ) (d : Data) (ms : Members) → wrongs_of (member k d ms) ≡ [] → (wrongs_of (member k d no_members) ≡ []) × (wrongs_of ms ≡ [])
split_wrongs k d ms e = split_with (entry_of k d) (wrongs_of ms) e

pub join_wrongs : (k : List ℕ) (d : Data) (ms : Members) → wrongs_of (member k d no_members) ≡ [] → wrongs_of ms ≡ [] → wrongs_of (member k d ms) ≡ []
join_wrongs k d ms here rest = ap (with_wrong (entry_of k d)) rest ∙ here
