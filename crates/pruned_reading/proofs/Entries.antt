-- Entries in the order of their names, of which some stay.
use Rattle.std.proofs.Common.{◌≡◌, ℕ, Bool, true, false, cond, List, [], ◌∷◌, filter, refl, sym, ap, ◌∙◌}
use Rattle.std.specs.List.{AllByRecursion}
use Rattle.std.specs.List.Sorted.{IsStrictlySortedBy}
use Rattle.std.specs.BTreeMap.{insert_entry}
use Rattle.std.specs.Ordering.{match_ordering}
use Rattle.std.specs.Cmp.Lexicographic.{nat_list_cmp_total}
use Rattle.std.specs.declared.cmp.Ordering.{Ordering}
use Rattle.std.specs.declared.cmp.Ordering.TheVariants.{Less, Equal, Greater}
use Rattle.std.proofs.lemmas.Bool.{false≢true}
use Rattle.rel_path.specs.Paths.{name_cmp}
use Rattle.pruned_reading.proofs.Lists.{all_from, all_has, filter_has}
use Rattle.pruned_reading.proofs.Ascending.{name_tied, turned}

abbrev pub Named : Type 0 → Type 0
Named V = List ℕ × V

module _ {V : Type 0} where
  abbrev entry_cmp : Named V → Named V → Ordering
  entry_cmp a b = name_cmp a.0 b.0

  abbrev pub Ascends : List (Named V) → Type 0
  Ascends entries = IsStrictlySortedBy entry_cmp entries

  all_put : (P : List ℕ → Type 0) (entries : List (Named V)) (name : List ℕ) (v : V) → P name → AllByRecursion (λ e. P e.0) entries → AllByRecursion (λ e. P e.0) (insert_entry name_cmp entries name v)
  all_put P [] name v here all = (here, tt)
  all_put P (e ∷ es) name v here all = by (name_cmp name e.0) (all_put P es name v here all.1) where
    by : (o : Ordering) → AllByRecursion (λ e. P e.0) (insert_entry name_cmp es name v) → AllByRecursion (λ e. P e.0) (match_ordering o ((name, v) ∷ e ∷ es) ((e.0, v) ∷ es) (e ∷ insert_entry name_cmp es name v))
    by Less more = (here, all)
    by Equal more = all
    by Greater more = (all.0, more)

  behind : (name : List ℕ) (e : Named V) (es : List (Named V)) → name_cmp name e.0 ≡ Less → AllByRecursion (λ f. entry_cmp e f ≡ Less) es → AllByRecursion (λ f. name_cmp name f.0 ≡ Less) es
  behind name e es less all = all_from (λ f. name_cmp name f.0 ≡ Less) es (λ f has. nat_list_cmp_total.trans name e.0 f.0 less (all_has (λ g. entry_cmp e g ≡ Less) es f all has))

  pub ascends_put : (entries : List (Named V)) (name : List ℕ) (v : V) → Ascends entries → Ascends (insert_entry name_cmp entries name v)
  unfolding IsStrictlySortedBy
  ascends_put [] name v up = (tt, tt)
  ascends_put (e ∷ es) name v up = by (name_cmp name e.0) refl (ascends_put es name v up.1) where
    by : (o : Ordering) → name_cmp name e.0 ≡ o → Ascends (insert_entry name_cmp es name v) → Ascends (match_ordering o ((name, v) ∷ e ∷ es) ((e.0, v) ∷ es) (e ∷ insert_entry name_cmp es name v))
    by Less c more = ((c, behind name e es c up.0), up)
    by Equal c more = up
    by Greater c more = (all_put (λ n. name_cmp e.0 n ≡ Less) es name v (turned name_cmp nat_list_cmp_total name e.0 c) up.0, more)

  -- ---- some of them

  module _ (stays : List ℕ → Bool) where
    abbrev pub stays_at : Named V → Bool
    stays_at e = stays e.0

    put_first : (entries : List (Named V)) (name : List ℕ) (v : V) → AllByRecursion (λ e. name_cmp name e.0 ≡ Less) entries → insert_entry name_cmp entries name v ≡ (name, v) ∷ entries
    put_first [] name v all = refl
    put_first (e ∷ es) name v all = ap (λ o. match_ordering o ((name, v) ∷ e ∷ es) ((e.0, v) ∷ es) (e ∷ insert_entry name_cmp es name v)) all.0

    -- an entry that stays is put among those that stay
    pub put_kept : (entries : List (Named V)) (name : List ℕ) (v : V) → Ascends entries → stays name ≡ true → filter stays_at (insert_entry name_cmp entries name v) ≡ insert_entry name_cmp (filter stays_at entries) name v
    unfolding IsStrictlySortedBy
    put_kept [] name v up k = ap (λ b. cond b ((name, v) ∷ []) []) k
    put_kept (e ∷ es) name v up k = by (name_cmp name e.0) refl (stays e.0) refl (put_kept es name v up.1 k) where
      first : name_cmp name e.0 ≡ Less → (name, v) ∷ filter stays_at (e ∷ es) ≡ insert_entry name_cmp (filter stays_at (e ∷ es)) name v
      first c = sym (put_first (filter stays_at (e ∷ es)) name v (all_from (λ f. name_cmp name f.0 ≡ Less) (filter stays_at (e ∷ es)) (λ f has. all_has (λ f. name_cmp name f.0 ≡ Less) (e ∷ es) f (c, behind name e es c up.0) (filter_has stays_at (e ∷ es) f has))))

      by : (o : Ordering) → name_cmp name e.0 ≡ o → (b : Bool) → stays e.0 ≡ b → filter stays_at (insert_entry name_cmp es name v) ≡ insert_entry name_cmp (filter stays_at es) name v
          → filter stays_at (match_ordering o ((name, v) ∷ e ∷ es) ((e.0, v) ∷ es) (e ∷ insert_entry name_cmp es name v)) ≡ insert_entry name_cmp (filter stays_at (e ∷ es)) name v
      by Less c b s more = ap (λ t. cond t ((name, v) ∷ filter stays_at (e ∷ es)) (filter stays_at (e ∷ es))) k ∙ first c
      by Equal c true s more = rw s (sym (ap (λ o. match_ordering o ((name, v) ∷ e ∷ filter stays_at es) ((e.0, v) ∷ filter stays_at es) (e ∷ insert_entry name_cmp (filter stays_at es) name v)) c))
      by Equal c false s more = absurd (false≢true (sym s ∙ (ap stays (sym (name_tied name e.0 c)) ∙ k)))
      by Greater c true s more =
          rw s (ap (λ fs. e ∷ fs) more ∙ sym (ap (λ o. match_ordering o ((name, v) ∷ e ∷ filter stays_at es) ((e.0, v) ∷ filter stays_at es) (e ∷ insert_entry name_cmp (filter stays_at es) name v)) c))
      by Greater c false s more = rw s more

    -- one that does not leaves them as they are
    pub put_left : (entries : List (Named V)) (name : List ℕ) (v : V) → stays name ≡ false → filter stays_at (insert_entry name_cmp entries name v) ≡ filter stays_at entries
    put_left [] name v k = ap (λ b. cond b ((name, v) ∷ []) []) k
    put_left (e ∷ es) name v k = by (name_cmp name e.0) refl (put_left es name v k) where
      by : (o : Ordering) → name_cmp name e.0 ≡ o → filter stays_at (insert_entry name_cmp es name v) ≡ filter stays_at es
          → filter stays_at (match_ordering o ((name, v) ∷ e ∷ es) ((e.0, v) ∷ es) (e ∷ insert_entry name_cmp es name v)) ≡ filter stays_at (e ∷ es)
      by Less c more = ap (λ t. cond t ((name, v) ∷ filter stays_at (e ∷ es)) (filter stays_at (e ∷ es))) k
      by Equal c more = let s : stays e.0 ≡ false = ap stays (sym (name_tied name e.0 c)) ∙ k in rw s refl
      by Greater c more = ap (λ fs. cond (stays e.0) (e ∷ fs) fs) more
