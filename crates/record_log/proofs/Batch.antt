-- Frames that are appended together, and what the two writes leave.
use Rattle.std.proofs.Common.{◌≡◌, inl, inr, ℕ, zero, suc, ◌+◌, ◌≤◌, ◌<◌, true, List, [], ◌∷◌, ◌++◌, length, get_or, take, drop, refl, sym, ◌∙◌, ◌-◌, ap, subst, arith, append_assoc, length-append, length-drop}
use Rattle.std.proofs.lemmas.Bool.{cases_eq, and_parts}
use Rattle.std.proofs.lemmas.List.{take_at, drop_at, append-nil, length-take, take_rest, map_more}
use Rattle.store_dev.specs.Device.{Torn, Holds, Only, After, Elapses, LeavesOnly}
use Rattle.store_dev.specs.Moments.{started, goes_on}
use Rattle.record_log.specs.declared.frame.NewFrame.{NewFrame}
use Rattle.record_log.specs.Kinds.{Entry, has_form, form, blobs, text, size}
use Rattle.record_log.specs.Frames.{opened, all_formed, magic, reading, AtRest}
use Rattle.record_log.specs.Batch.{new_entry, new_entries, EachWithin, IsBeforeOrAll}
use Rattle.record_log.specs.Texts.{length-text, opened_append, formed_append}
use Rattle.record_log.proofs.Rest.{stand, stand_read, stands_at_rest, at_rest_read, front_at_rest, body_torn, torn_front, torn_back, regated}

pub opened_one : (fs : List Entry) (e : Entry)
    → opened (fs ++ e ∷ []) ≡ (opened fs ++ 1 ∷ []) ++ text e
opened_one fs e = opened_append fs (e ∷ []) ∙ ap (λ (l : List ℕ). opened fs ++ (1 ∷ l)) (append-nil (text e)) ∙ sym (append_assoc (opened fs) (1 ∷ []) (text e))

pub length-opened_one : (fs : List Entry) (e : Entry)
    → length (opened (fs ++ e ∷ [])) ≡ length (opened fs) + (size e + 1)
length-opened_one fs e = omega (arith, ap length (opened_one fs e), length-append (opened fs ++ 1 ∷ []) (text e), length-append (opened fs) (1 ∷ []), length-text e)

pub each_at : (frames : List NewFrame) (i : ℕ) (d : NewFrame) → EachWithin (new_entries frames)
    → i < length frames → EachWithin (new_entry (get_or frames i d) ∷ [])
each_at [] i d within lt = absurd (omega arith)
each_at (f ∷ frames) zero d within lt = (within.0, within.1, tt)
each_at (f ∷ frames) (suc i) d within lt = each_at frames i d within.2 (omega arith)

-- the bytes behind the gate of such frames: they begin with an open one, and a closed one stands behind them
pub behind_gate : List Entry → List ℕ
behind_gate es = drop 1 (opened es ++ 0 ∷ [])

gate_first : (es : List Entry) → 0 < length es → opened es ++ 0 ∷ [] ≡ 1 ∷ behind_gate es
unfolding behind_gate
gate_first [] some = absurd (omega arith)
gate_first (e ∷ es) some = refl

pub behind_is : (bytes : List ℕ) (es : List Entry) → bytes ≡ opened es ++ 0 ∷ []
    → take (length bytes - 1) (drop 1 bytes) ≡ behind_gate es
unfolding behind_gate
behind_is bytes es is = take_rest bytes 1 ∙ ap (drop 1) is

pub length-behind_gate : (es : List Entry) → length (behind_gate es) ≡ length (opened es)
unfolding behind_gate
length-behind_gate es = omega (arith, length-drop 1 (opened es ++ 0 ∷ []), length-append (opened es) (0 ∷ []))

pub some_entries : (frames : List NewFrame) → 0 < length frames → 0 < length (new_entries frames)
some_entries [] some = some
some_entries (f ∷ frames) some = omega arith

pub length-new_entries : (frames : List NewFrame) → length (new_entries frames) ≡ length frames
length-new_entries [] = refl
length-new_entries (f ∷ frames) = omega (arith, length-new_entries frames)

-- behind a gate that is open they count, and else they do not
gate_opens : (fs es : List Entry) (tail : List ℕ) → 0 < length es
    → opened fs ++ (1 ∷ (behind_gate es ++ tail)) ≡ opened (fs ++ es) ++ (0 ∷ tail)
gate_opens fs es tail some =
    ap (λ (l : List ℕ). opened fs ++ (l ++ tail)) (sym (gate_first es some))
    ∙ ap (λ (l : List ℕ). opened fs ++ l) (append_assoc (opened es) (0 ∷ []) tail)
    ∙ sym (append_assoc (opened fs) (opened es) (0 ∷ tail))
    ∙ ap (λ (l : List ℕ). l ++ 0 ∷ tail) (sym (opened_append fs es))

pub all_read : (fs es : List Entry) (gate : ℕ) (tail : List ℕ) → 0 < length es
    → all_formed [] fs ≡ true → all_formed fs es ≡ true
    → IsBeforeOrAll fs es (stand fs gate (behind_gate es ++ tail))
all_read fs es gate tail some formed more = elim (cases_eq gate 1) [
  | inl is_open ↦ inr (ap (λ (g : ℕ). reading (stand fs g (behind_gate es ++ tail))) is_open ∙ ap (λ (l : List ℕ). reading (magic ++ l)) (gate_opens fs es tail some) ∙ stand_read (fs ++ es) 0 tail (formed_append fs [] es formed more) (omega arith))
  | inr shut ↦ inl (stand_read fs gate (behind_gate es ++ tail) formed shut)
]

-- the frames stand whole behind the gate
pub record AllStaged (bytes : List ℕ) (fs : List Entry) (end : ℕ) (es : List Entry) : Type 0 where
  pub rest : AtRest bytes fs end
  pub tail : List ℕ
  pub behind : drop (end + 1) bytes ≡ behind_gate es ++ tail

pub all_written : (bytes c : List ℕ) (fs : List Entry) (end : ℕ) (es : List Entry)
    → AtRest bytes fs end → Holds bytes (end + 1) (behind_gate es) c → AllStaged c fs end es
all_written bytes c fs end es r holds = record {
  rest = front_at_rest bytes c fs end r (ap (λ (l : List ℕ). take (end + 1) l) is ∙ take_at front back (end + 1) size_is);
  tail = drop (end + 1 + length (behind_gate es)) bytes;
  behind = ap (λ (l : List ℕ). drop (end + 1) l) is ∙ drop_at front back (end + 1) size_is;
}
  where
    front : List ℕ
    front = take (end + 1) bytes

    back : List ℕ
    back = behind_gate es ++ drop (end + 1 + length (behind_gate es)) bytes

    is : c ≡ front ++ back
    is = holds ∙ append_assoc front (behind_gate es) (drop (end + 1 + length (behind_gate es)) bytes)

    size_is : length front ≡ end + 1
    size_is = omega (arith, length-take (end + 1) bytes, r.inside)

pub all_torn : (bytes c : List ℕ) (fs : List Entry) (end : ℕ) (es : List Entry) → 0 < length es
    → AllStaged bytes fs end es → all_formed fs es ≡ true → Torn end 1 bytes c
    → IsBeforeOrAll fs es c
all_torn bytes c fs end es some s more torn =
    let r = s.rest in
    let long : end < length bytes = r.inside in
    let is : c ≡ stand fs (get_or c end 0) (behind_gate es ++ s.tail) = regated bytes c fs end r (omega (arith, torn.no_shorter, long)) (torn_front end 1 bytes c (omega (arith, long)) torn) (torn_back end 1 bytes c (omega (arith, long)) torn) ∙ ap (λ (l : List ℕ). stand fs (get_or c end 0) l) s.behind in
    subst (λ (l : List ℕ). IsBeforeOrAll fs es l) (sym is) (all_read fs es (get_or c end 0) s.tail some r.formed more)

pub all_opened : (bytes c : List ℕ) (fs : List Entry) (end : ℕ) (es : List Entry) → 0 < length es
    → AllStaged bytes fs end es → all_formed fs es ≡ true → Holds bytes end (1 ∷ []) c
    → AtRest c (fs ++ es) (end + length (opened es))
all_opened bytes c fs end es some s more holds = stands_at_rest c (fs ++ es) (end + length (opened es)) 0 s.tail is place (omega arith) (formed_append fs [] es s.rest.formed more)
  where
    size_is : length (magic ++ opened fs) ≡ end
    size_is = omega (arith, s.rest.place)

    fore : take end bytes ≡ magic ++ opened fs
    fore = ap (λ (l : List ℕ). take end l) s.rest.split ∙ take_at (magic ++ opened fs) (drop end bytes) end size_is

    is : c ≡ stand (fs ++ es) 0 s.tail
    is = holds ∙ ap (λ (l : List ℕ). (l ++ 1 ∷ []) ++ drop (end + 1) bytes) fore ∙ append_assoc (magic ++ opened fs) (1 ∷ []) (drop (end + 1) bytes) ∙ ap (λ (l : List ℕ). (magic ++ opened fs) ++ (1 ∷ l)) s.behind ∙ ap (λ (l : List ℕ). magic ++ l) (gate_opens fs es s.tail some)

    place : end + length (opened es) ≡ 8 + length (opened (fs ++ es))
    place = omega (arith, s.rest.place, ap length (opened_append fs es), length-append (opened fs) (opened es))

-- what a crash leaves at each step of an append
module _ {D : Type 0} (content : D → List ℕ) (images : D → List ℕ → Type 0) (moment : D → ℕ) (images_since : D → ℕ → List ℕ → Type 0) (only_now : (d : D) (c : List ℕ) → images_since d (moment d) c → images d c) (old : D) (fs : List Entry) (end : ℕ) (es : List Entry) (some : 0 < length es) (rest : AtRest (content old) fs end) (only : Only (content old) (images old)) (more : all_formed fs es ≡ true) where
  pub all_start : LeavesOnly moment images_since old old (IsBeforeOrAll fs es)
  all_start = started moment images_since old (IsBeforeOrAll fs es) (λ c left. inl (ap reading (only c (only_now old c left)) ∙ at_rest_read rest))

  pub all_body : (mid : D) (n : ℕ)
      → Elapses (moment old) (moment mid) (images_since old) (images_since mid) (After (Torn (end + 1) n) (images old))
      → LeavesOnly moment images_since old mid (IsBeforeOrAll fs es)
  all_body mid n time = goes_on moment images_since old old mid (IsBeforeOrAll fs es) (After (Torn (end + 1) n) (images old)) all_start time (λ c left. inl (at_rest_read (body_torn n (content old) c fs end rest (subst (λ (d : List ℕ). Torn (end + 1) n d c) (only left.0 left.1) left.2))))

  pub all_gate : (mid new : D) (n : ℕ)
      → Elapses (moment old) (moment mid) (images_since old) (images_since mid) (After (Torn (end + 1) n) (images old))
      → Holds (content old) (end + 1) (behind_gate es) (content mid)
      → Only (content mid) (images mid)
      → Elapses (moment mid) (moment new) (images_since mid) (images_since new) (After (Torn end 1) (images mid)) → LeavesOnly moment images_since old new (IsBeforeOrAll fs es)
  all_gate mid new n time holds only_mid later = goes_on moment images_since old mid new (IsBeforeOrAll fs es) (After (Torn end 1) (images mid)) (all_body mid n time) later (λ c left. all_torn (content mid) c fs end es some (all_written (content old) (content mid) fs end es rest holds) more (subst (λ (d : List ℕ). Torn end 1 d c) (only_mid left.0 left.1) left.2))

-- the frame with a number among them
pub entries_more : (frames : List NewFrame) (i : ℕ) (d : NewFrame) → i < length frames
    → new_entries (take (i + 1) frames) ≡ new_entries (take i frames) ++ new_entry (get_or frames i d) ∷ []
entries_more frames i d lt = map_more new_entry frames i d lt

pub opened_more : (frames : List NewFrame) (i : ℕ) (d : NewFrame) → i < length frames
    → length (opened (new_entries (take (i + 1) frames))) ≡ length (opened (new_entries (take i frames))) + (size (new_entry (get_or frames i d)) + 1)
opened_more frames i d lt = ap (λ (es : List Entry). length (opened es)) (entries_more frames i d lt) ∙ length-opened_one (new_entries (take i frames)) (new_entry (get_or frames i d))

pub opened_take : (frames : List NewFrame) (i : ℕ)
    → length (opened (new_entries (take i frames))) ≤ length (opened (new_entries frames))
opened_take [] zero = omega arith
opened_take [] (suc i) = omega arith
opened_take (f ∷ frames) zero = omega arith
opened_take (f ∷ frames) (suc i) = omega (arith, opened_take frames i, length-append (text (new_entry f)) (opened (new_entries (take i frames))), length-append (text (new_entry f)) (opened (new_entries frames)))

pub formed_at : (frames : List NewFrame) (before : List Entry) (i : ℕ) (d : NewFrame)
    → all_formed before (new_entries frames) ≡ true → i < length frames
    → has_form (before ++ new_entries (take i frames)) (new_entry (get_or frames i d)) ≡ true
formed_at [] before i d formed lt = absurd (omega arith)
formed_at (f ∷ frames) before zero d formed lt = subst (λ (b : List Entry). has_form b (new_entry f) ≡ true) (sym (append-nil before)) (and_parts _ _ formed).0
formed_at (f ∷ frames) before (suc i) d formed lt = subst (λ (b : List Entry). has_form b (new_entry (get_or frames i d)) ≡ true) (append_assoc before (new_entry f ∷ []) (new_entries (take i frames))) (formed_at frames (before ++ new_entry f ∷ []) i d (and_parts _ _ formed).1 (omega arith))

pub form_of : (before : List Entry) (e : Entry) → has_form before e ≡ true
    → form (blobs before) e ≡ true
unfolding has_form
form_of before e h = (and_parts (form (blobs before) e) _ h).0

pub opened_some : (es : List Entry) → 0 < length es → 0 < length (opened es)
opened_some [] some = some
opened_some (e ∷ es) some = omega arith
