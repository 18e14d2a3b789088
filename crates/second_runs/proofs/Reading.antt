-- A device that was only read again, and then used: what a crash leaves of it.
use Rattle.std.proofs.Common.{◌≡◌, ◌≤◌, ◌<◌, ◌∙◌, inl, inr, ⊎_elim, ℕ, Bool, List, length, Option, Ok, refl, sym, ap, subst}
use Rattle.std.specs.Prelude.{◌⊎◌, ◌++◌}
use Rattle.store_dev.specs.Device.{LeavesOnly, Only}
use Rattle.store_dev.specs.Moments.{started, leaves_more, leaves_then}
use Rattle.store_dev.specs.declared.device.StoreDevice.{Ghosts}
use Rattle.cache_api.specs.Pairs.{Pair}
use Rattle.record_log.specs.Kinds.{Entry}
use Rattle.record_log.specs.Frames.{reading, IsSound, ReadsAsOneOf}
use Rattle.artifact_store.specs.Pairs.{told_as}
use Rattle.compact.specs.Current.{generation_in}
use Rattle.compact.specs.Left.{IsReread}
use Rattle.compact.proofs.Telling.{frames_same, store_tells}
use Rattle.relay_store.specs.Parts.{into}
use Rattle.store_answers.specs.Facts.{stands_same, generation_same}
use Rattle.second_runs.specs.Images.{IsBehind, AddsBehind, AddsTo}

-- ---- bytes

behind_as : (puts : Bool) (d e c : List ℕ) → reading d ≡ reading e → AddsBehind puts d c
    → AddsBehind puts e c
behind_as puts d e c same (inl is) = inl (is ∙ same)
behind_as puts d e c same (inr (pairs, stands, more)) = inr (
  pairs,
  sym (stands_same d e same) ∙ stands,
  subst (λ (n : ℕ). IsBehind puts pairs (told_as n c)) (generation_same d e same) more,
)

-- bytes that have more pairs are a store of that generation
pub adds_generation : (puts : Bool) (d c : List ℕ) → AddsBehind puts d c
    → generation_in c ≡ generation_in d
adds_generation puts d c (inl same) = generation_same c d same
adds_generation puts d c (inr (pairs, stands, (more, told))) =
    (store_tells (generation_in d) (pairs ++ into puts more) c told).generation

pub adds_sound : (puts : Bool) (d c : List ℕ) → IsSound d → AddsBehind puts d c → IsSound c
adds_sound puts d c sound (inl same) =
    same ∙ sound ∙ ap (λ (fs : List Entry). Ok fs) (sym (frames_same c d same))
adds_sound puts d c sound (inr (pairs, stands, (more, told))) =
    (store_tells (generation_in d) (pairs ++ into puts more) c told).sound

-- ---- a device that was left alone

-- since this moment a crash leaves what it may leave now
abbrev pub OnlyNow : {D : Type 0} → Ghosts D → D → Type 0
OnlyNow G device = (c : List ℕ) → G.images_since device (G.moment device) c → G.images device c

module _ {D : Type 0} (G : Ghosts D) (device : D) (only : OnlyNow G device) where
  pub alone : LeavesOnly G.moment G.images_since device device (ReadsAsOneOf (G.images device))
  alone = started G.moment G.images_since device (ReadsAsOneOf (G.images device))
      (λ c left. (c, only c left, refl))

  pub alone_reread : IsReread G device device
  alone_reread = record { images = alone; same = λ long. refl }

-- ---- a device that was read again

module _ {S : Type 0} (G : Ghosts S) (old new : S)
    (x : LeavesOnly G.moment G.images_since old new (ReadsAsOneOf (G.images old))) where
  pub reads_add : (puts : Bool)
      → LeavesOnly G.moment G.images_since old new (AddsTo puts (G.images old))
  reads_add puts = leaves_more G.moment G.images_since old new _ (AddsTo puts (G.images old)) x
      (λ c one. let (d, now, is) = one in (d, now, inl is))

  pub reads_left : (L : List ℕ → Type 0) → LeavesOnly G.moment G.images_since old new
      (λ c. ReadsAsOneOf (G.images old) c ⊎ L c)
  reads_left L = leaves_more G.moment G.images_since old new _ _ x (λ c one. inl one)

-- what it may leave now it may have left since
abbrev pub CountsNow : {S : Type 0} → Ghosts S → S → Type 0
CountsNow G device =
    (m : ℕ) (c : List ℕ) → m ≤ G.moment device → G.images device c → G.images_since device m c

module _ {S : Type 0} (G : Ghosts S) (old mid : S) (reread : IsReread G old mid)
    (counts : CountsNow G mid) where
  through : (c : List ℕ) → ReadsAsOneOf (G.images mid) c → ReadsAsOneOf (G.images old) c
  through c (d, now, is) =
      let (e, was, same) =
      reread.images.each d (counts (G.moment old) d reread.images.later now) in
      (e, was, is ∙ same)

  adds_through : (puts : Bool) (c : List ℕ) → AddsTo puts (G.images mid) c
      → AddsTo puts (G.images old) c
  adds_through puts c (d, now, behind) =
      let (e, was, same) = through d (d, now, refl) in
      (e, was, behind_as puts d e c same behind)

  pub reread_then : (new : S) → IsReread G mid new → IsReread G old new
  reread_then new y = record {
    images = leaves_then G.moment G.images_since old mid new (ReadsAsOneOf (G.images old))
        (ReadsAsOneOf (G.images mid)) (ReadsAsOneOf (G.images old)) reread.images y.images
        (λ c one. one) through;
    same = λ long.
        y.same (subst (λ (l : List ℕ). 9 < length l) (sym (reread.same long)) long)
        ∙ reread.same long;
  }

  pub adds_then : (puts : Bool) (new : S)
      → LeavesOnly G.moment G.images_since mid new (AddsTo puts (G.images mid))
      → LeavesOnly G.moment G.images_since old new (AddsTo puts (G.images old))
  adds_then puts new y =
      leaves_then G.moment G.images_since old mid new (ReadsAsOneOf (G.images old))
      (AddsTo puts (G.images mid)) (AddsTo puts (G.images old)) reread.images y
      (λ c one. let (d, now, is) = one in (d, now, inl is)) (adds_through puts)

  pub left_then : (L : Option (List Pair) → Type 0) (g h : ℕ) (new : S) → g ≡ h
      → LeavesOnly G.moment G.images_since mid new
      (λ c. ReadsAsOneOf (G.images mid) c ⊎ L (told_as g c))
      → LeavesOnly G.moment G.images_since old new
      (λ c. ReadsAsOneOf (G.images old) c ⊎ L (told_as h c))
  left_then L g h new is y =
      leaves_then G.moment G.images_since old mid new (ReadsAsOneOf (G.images old)) _ _
      reread.images y (λ c one. inl one)
      (λ c left. ⊎_elim (λ one. inl (through c one))
      (λ ran. inr (subst (λ (n : ℕ). L (told_as n c)) is ran)) left)

-- ---- as it reads in the end

-- of a device of which a crash left one image alone
pub ends_behind : {S : Type 0} (G : Ghosts S) (old new : S) (puts : Bool)
    → LeavesOnly G.moment G.images_since old new (AddsTo puts (G.images old))
    → Only (G.content old) (G.images old) → CountsNow G new → G.images new (G.content new)
    → AddsBehind puts (G.content old) (G.content new)
ends_behind G old new puts x only counts now =
    let (d, was, behind) =
    x.each (G.content new) (counts (G.moment old) (G.content new) x.later now) in
    subst (λ (l : List ℕ). AddsBehind puts l (G.content new)) (only d was) behind
