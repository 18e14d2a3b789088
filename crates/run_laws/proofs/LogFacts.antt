-- Log files by folders and names of tasks.
use Rattle.std.proofs.Common.{◌≡◌, ℕ, ◌==◌, Bool, true, false, List, [], ◌∷◌, ◌++◌, refl, sym, ◌∙◌, append_assoc}
use Rattle.std.specs.Prelude.{codes}
use Rattle.std.proofs.lemmas.Bool.{or_parts, false≢true, true≢false, eqb-true, eq-eqb}
use Rattle.std.proofs.lemmas.List.{append_cancel_left, append_cancel_right, same_from_push}
use Rattle.run_laws.specs.Plans.{spelled, has_dollar, LogLaw}

-- how one byte is spelled
data Kind (b : ℕ) : Type 0 where
  Colon : (is : b ≡ 58) → Kind b
  Slash : (is : b ≡ 47) → Kind b
  Plain : (no_colon : (b == 58) ≡ false) (no_slash : (b == 47) ≡ false) → Kind b

kind_of : (b : ℕ) → Kind b
kind_of b = by (b == 58) (b == 47) refl refl
  where
    by : (c s : Bool) → (b == 58) ≡ c → (b == 47) ≡ s → Kind b
    by true s p q = Colon (eqb-true b 58 p)
    by false true p q = Slash (eqb-true b 47 q)
    by false false p q = Plain p q

-- the spelling of a text that begins with a byte
spelled-plain : (b : ℕ) (bs : List ℕ) → (b == 58) ≡ false → (b == 47) ≡ false → spelled (b ∷ bs) ≡ b ∷ spelled bs
spelled-plain b bs p q = rw (p, q) refl

spelled-colon : (b : ℕ) (bs : List ℕ) → b ≡ 58 → spelled (b ∷ bs) ≡ codes "$colon$" ++ spelled bs
spelled-colon b bs e = rw e refl

spelled-slash : (b : ℕ) (bs : List ℕ) → b ≡ 47 → spelled (b ∷ bs) ≡ codes "$slash$" ++ spelled bs
spelled-slash b bs e = rw e refl

no-dollar : (b : ℕ) → (b == 36) ≡ false → b ≡ 36 → ⊥
no-dollar b h e = true≢false (sym (rw e refl) ∙ h)

first_same : {X : Type 0} (x y : X) (xs ys : List X) → x ∷ xs ≡ y ∷ ys → x ≡ y
first_same x y xs ys e = cc

second_same : {X : Type 0} (u v x y : X) (xs ys : List X) → u ∷ x ∷ xs ≡ v ∷ y ∷ ys → x ≡ y
second_same u v x y xs ys e = cc

-- `$colon$` and `$slash$` differ
colon-no-slash : (xs ys : List ℕ) → codes "$colon$" ++ xs ≡ codes "$slash$" ++ ys → ⊥
colon-no-slash xs ys e = false≢true (eq-eqb 99 115 (second_same _ _ _ _ _ _ e))

spelled-same : (a b : List ℕ) → has_dollar a ≡ false → has_dollar b ≡ false → spelled a ≡ spelled b → a ≡ b
spelled-same [] [] ha hb e = refl
spelled-same [] (y ∷ ys) ha hb e = by (kind_of y)
  where
    by : Kind y → [] ≡ y ∷ ys
    by (Colon is) = absurd (let k = e ∙ spelled-colon y ys is in cc)
    by (Slash is) = absurd (let k = e ∙ spelled-slash y ys is in cc)
    by (Plain p q) = absurd (let k = e ∙ spelled-plain y ys p q in cc)
spelled-same (x ∷ xs) [] ha hb e = by (kind_of x)
  where
    by : Kind x → x ∷ xs ≡ []
    by (Colon is) = absurd (let k = sym (spelled-colon x xs is) ∙ e in cc)
    by (Slash is) = absurd (let k = sym (spelled-slash x xs is) ∙ e in cc)
    by (Plain p q) = absurd (let k = sym (spelled-plain x xs p q) ∙ e in cc)
spelled-same (x ∷ xs) (y ∷ ys) ha hb e =
    by (kind_of x) (kind_of y) (or_parts (x == 36) (has_dollar xs) ha) (or_parts (y == 36) (has_dollar ys) hb) (λ p q r. spelled-same xs ys p q r)
  where
    by : Kind x → Kind y → ((x == 36) ≡ false) × (has_dollar xs ≡ false) → ((y == 36) ≡ false) × (has_dollar ys ≡ false) → (has_dollar xs ≡ false → has_dollar ys ≡ false → spelled xs ≡ spelled ys → xs ≡ ys) → x ∷ xs ≡ y ∷ ys
    by (Colon p) (Colon q) a b more =
        let rest = more a.1 b.1 (append_cancel_left (codes "$colon$") (spelled xs) (spelled ys) (sym (spelled-colon x xs p) ∙ e ∙ spelled-colon y ys q)) in
        λ i. (p ∙ sym q) i ∷ rest i
    by (Colon p) (Slash q) a b more = absurd (colon-no-slash (spelled xs) (spelled ys) (sym (spelled-colon x xs p) ∙ e ∙ spelled-slash y ys q))
    by (Colon p) (Plain q r) a b more = absurd (no-dollar y b.0 (sym (first_same _ _ _ _ (sym (spelled-colon x xs p) ∙ e ∙ spelled-plain y ys q r))))
    by (Slash p) (Colon q) a b more = absurd (colon-no-slash (spelled ys) (spelled xs) (sym (sym (spelled-slash x xs p) ∙ e ∙ spelled-colon y ys q)))
    by (Slash p) (Slash q) a b more =
        let rest = more a.1 b.1 (append_cancel_left (codes "$slash$") (spelled xs) (spelled ys) (sym (spelled-slash x xs p) ∙ e ∙ spelled-slash y ys q)) in
        λ i. (p ∙ sym q) i ∷ rest i
    by (Slash p) (Plain q r) a b more = absurd (no-dollar y b.0 (sym (first_same _ _ _ _ (sym (spelled-slash x xs p) ∙ e ∙ spelled-plain y ys q r))))
    by (Plain p q) (Colon r) a b more = absurd (no-dollar x a.0 (first_same _ _ _ _ (sym (spelled-plain x xs p q) ∙ e ∙ spelled-colon y ys r)))
    by (Plain p q) (Slash r) a b more = absurd (no-dollar x a.0 (first_same _ _ _ _ (sym (spelled-plain x xs p q) ∙ e ∙ spelled-slash y ys r)))
    by (Plain p q) (Plain r t) a b more =
        let k : x ∷ spelled xs ≡ y ∷ spelled ys = sym (spelled-plain x xs p q) ∙ e ∙ spelled-plain y ys r t in
        let here : x ≡ y = cc in
        let behind : spelled xs ≡ spelled ys = cc in
        let rest = more a.1 b.1 behind in
        λ i. here i ∷ rest i

pub log_law_lem : LogLaw
log_law_lem a b ha hb e =
    let file = codes "turbo-" in
    let assoc : (folder : List (List ℕ)) (name : List ℕ) → folder ++ codes ".turbo" ∷ name ∷ [] ≡ (folder ++ codes ".turbo" ∷ []) ++ name ∷ [] = λ folder name. sym (append_assoc folder (codes ".turbo" ∷ []) (name ∷ [])) in
    let both = same_from_push (a.folder ++ codes ".turbo" ∷ []) (b.folder ++ codes ".turbo" ∷ []) (file ++ (spelled a.task ++ codes ".log")) (file ++ (spelled b.task ++ codes ".log"))
    (sym (assoc a.folder _) ∙ e ∙ assoc b.folder _) in
    let folders = same_from_push a.folder b.folder (codes ".turbo") (codes ".turbo") both.0 in
    let names = append_cancel_right (spelled a.task) (spelled b.task) (codes ".log") (append_cancel_left file (spelled a.task ++ codes ".log") (spelled b.task ++ codes ".log") both.1) in
    (folders.0, spelled-same a.task b.task ha hb names)
