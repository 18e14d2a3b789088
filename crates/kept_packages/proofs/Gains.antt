-- Lists of numbers of owners, as they grow.
use Rattle.std.proofs.Common.{◌≡◌, ◌⊎◌, inl, inr, ℕ, ◌+◌, ◌<◌, List, [], ◌∷◌, ◌++◌, length, get_or, take, refl, sym, ap, ◌∙◌, subst, arith}
use Rattle.std.specs.Prelude.{Some}
use Rattle.std.specs.List.{slice_get, list_any, HoldsAt}
use Rattle.std.proofs.lemmas.Bool.{false≢true, or_cases, or_left, or_right}
use Rattle.std.proofs.lemmas.List.{take_more}
use Rattle.std.proofs.lemmas.List.Folds.{list_any-append}
use Rattle.std.proofs.lemmas.Option.{slice_get-get_or, get_or_from_slice_get}
use Rattle.rel_path.specs.Paths.{name_eq}
use Rattle.workspaces.specs.declared.member.Package.{Package}
use Rattle.workspaces.specs.Lists.{Has}
use Rattle.workspaces.specs.Space.{Space, owners}
use Rattle.task_definitions.specs.Setup.{Setup}
use Rattle.kept_packages.specs.Kept.{names_package, is_target}
use Rattle.kept_packages.specs.Needs.{IsAmong, IsOf, Gains, Leads, IsTarget}
use Rattle.kept_packages.specs.Steps.{NamesOwner, AnyTaskNames, IsWrittenIn, IsHomeIn}
use Rattle.kept_packages.proofs.Lists.{some_same, has_left, has_right, has_append, has_one}

-- what holds at a place holds of what stands there
pub held : {X : Type 0} (P : X → Type 0) (xs : List X) (i : ℕ) (x : X) → HoldsAt P xs i → slice_get xs i ≡ Some x → P x
held P xs i x holds at = subst P (get_or_from_slice_get xs i x x at) (holds x)

pub there : {X : Type 0} (xs : List X) (i : ℕ) → i < length xs → (x : X) × (slice_get xs i ≡ Some x)
there [] i less = absurd (omega (arith, less))
there (x ∷ xs) i less = (get_or (x ∷ xs) i x, slice_get-get_or (x ∷ xs) i x less)

-- ---- what was added

module _ (space : Space) where
  pub gains_none : (P : Package → Type 0) (old : List ℕ) → ((q : Package) → P q → ⊥) → Gains space P old old
  gains_none P old never = record {
    kept = λ n has. has;
    added = λ q p. absurd (never q p);
    only = λ n has. inl has;
  }

  pub gains_list : (P : Package → Type 0) (old more new : List ℕ) → new ≡ old ++ more → ((n : ℕ) → Has more n → IsOf space P n) → ((q : Package) → P q → IsAmong space more q) → Gains space P old new
  gains_list P old more new is sound whole = rw is (record {
    kept = λ n has. has_left old more n has;
    added = λ q p. let a = whole q p in record { number = a.number; among = has_right old more a.number a.among; stands = a.stands };
    only = λ n has. elim (has_append old more n has) [ inl before ↦ inl before | inr here ↦ inr (sound n here) ];
  })

  pub gains_one : (P : Package → Type 0) (old new : List ℕ) (n : ℕ) → new ≡ old ++ n ∷ [] → IsOf space P n → ((q : Package) → P q → slice_get (owners space) n ≡ Some q) → Gains space P old new
  gains_one P old new n is of whole =
      gains_list P old (n ∷ []) new is (λ m has. subst (λ k. IsOf space P k) (has_one n m has) of) (λ q p. record { number = n; among = inl refl; stands = whole q p })

  pub gains_as : (P Q : Package → Type 0) (old new : List ℕ) → ((q : Package) → P q → Q q) → ((q : Package) → Q q → P q) → Gains space P old new → Gains space Q old new
  gains_as P Q old new forth back gains = record {
    kept = gains.kept;
    added = λ q is. gains.added q (back q is);
    only = λ n has. elim (gains.only n has) [ inl before ↦ inl before | inr of ↦ inr (record { member = of.member; stands = of.stands; is = forth of.member of.is }) ];
  }

  pub gains_then : (P Q : Package → Type 0) (old mid new : List ℕ) → Gains space P old mid → Gains space Q mid new → Gains space (λ q. P q ⊎ Q q) old new
  gains_then P Q old mid new first second = record {
    kept = λ n has. second.kept n (first.kept n has);
    added = λ q is. elim is [
      | inl p ↦ let a = first.added q p in record { number = a.number; among = second.kept a.number a.among; stands = a.stands }
      | inr r ↦ second.added q r
    ];
    only = λ n has. elim (second.only n has) [
      | inl before ↦ elim (first.only n before) [
        | inl old ↦ inl old
        | inr of ↦ inr (record { member = of.member; stands = of.stands; is = inl of.is })
      ]
      | inr of ↦ inr (record { member = of.member; stands = of.stands; is = inr of.is })
    ];
  }

-- ---- what holds of a list where it holds of one of its members

pub record Splits {X : Type 0} (F : List X → Package → Type 0) : Type 0 where
  pub none : (q : Package) → F [] q → ⊥
  pub parts : (xs ys : List X) (q : Package) → F (xs ++ ys) q → F xs q ⊎ F ys q
  pub left : (xs ys : List X) (q : Package) → F xs q → F (xs ++ ys) q
  pub right : (xs ys : List X) (q : Package) → F ys q → F (xs ++ ys) q

module _ {X : Type 0} (space : Space) (F : List X → Package → Type 0) (splits : Splits F) where
  pub gains_start : (old : List ℕ) → Gains space (F []) old old
  gains_start old = gains_none space (F []) old splits.none

  -- one more member of the list
  pub gains_next : (xs : List X) (i : ℕ) (x : X) (start old new : List ℕ) → i < length xs → x ≡ get_or xs i x → Gains space (F (take i xs)) start old → Gains space (F (x ∷ [])) old new → Gains space (F (take (i + 1) xs)) start new
  gains_next xs i x start old new less is before here =
      subst (λ ys. Gains space (F ys) start new) (sym (take_more xs i x less ∙ ap (λ y. take i xs ++ y ∷ []) (sym is)))
      (gains_as space (λ q. F (take i xs) q ⊎ F (x ∷ []) q) (F (take i xs ++ x ∷ [])) start new
      (λ q e. elim e [ inl l ↦ splits.left (take i xs) (x ∷ []) q l | inr r ↦ splits.right (take i xs) (x ∷ []) q r ])
      (λ q e. splits.parts (take i xs) (x ∷ []) q e)
      (gains_then space (F (take i xs)) (F (x ∷ [])) start old new before here))

pub leads_splits : (space : Space) (R : Package → Package → Type 0) → Splits (Leads space R)
leads_splits space R = record {
  none = λ q l. absurd l.among.among;
  parts = λ xs ys q l. elim (has_append xs ys l.among.number l.among.among) [
    | inl has ↦ inl (record { user = l.user; among = record { number = l.among.number; among = has; stands = l.among.stands }; needs = l.needs })
    | inr has ↦ inr (record { user = l.user; among = record { number = l.among.number; among = has; stands = l.among.stands }; needs = l.needs })
  ];
  left = λ xs ys q l. record { user = l.user; among = record { number = l.among.number; among = has_left xs ys l.among.number l.among.among; stands = l.among.stands }; needs = l.needs };
  right = λ xs ys q l. record { user = l.user; among = record { number = l.among.number; among = has_right xs ys l.among.number l.among.among; stands = l.among.stands }; needs = l.needs };
}

pub names_splits : (space : Space) → Splits (NamesOwner space)
names_splits space = record {
  none = λ q n. false≢true n.named;
  parts = λ xs ys q n. elim (or_cases (list_any (names_package n.name) xs) (list_any (names_package n.name) ys) (sym (list_any-append (names_package n.name) xs ys) ∙ n.named)) [
    | inl e ↦ inl (record { name = n.name; named = e; is = n.is })
    | inr e ↦ inr (record { name = n.name; named = e; is = n.is })
  ];
  left = λ xs ys q n. record { name = n.name; named = list_any-append (names_package n.name) xs ys ∙ or_left (list_any (names_package n.name) xs) (list_any (names_package n.name) ys) n.named; is = n.is };
  right = λ xs ys q n. record { name = n.name; named = list_any-append (names_package n.name) xs ys ∙ or_right (list_any (names_package n.name) xs) (list_any (names_package n.name) ys) n.named; is = n.is };
}

pub tasks_splits : (space : Space) (setup : Setup) (owner : List ℕ) → Splits (AnyTaskNames space setup owner)
tasks_splits space setup owner = record {
  none = λ q n. absurd n.among;
  parts = λ xs ys q n. elim (has_append xs ys n.task n.among) [
    | inl has ↦ inl (record { task = n.task; among = has; names = n.names })
    | inr has ↦ inr (record { task = n.task; among = has; names = n.names })
  ];
  left = λ xs ys q n. record { task = n.task; among = has_left xs ys n.task n.among; names = n.names };
  right = λ xs ys q n. record { task = n.task; among = has_right xs ys n.task n.among; names = n.names };
}

pub written_splits : (space : Space) → Splits (IsWrittenIn space)
written_splits space = record {
  none = λ q w. absurd w.among;
  parts = λ xs ys q w. elim (has_append xs ys w.text w.among) [
    | inl has ↦ inl (record { inner = w.inner; text = w.text; among = has; writes = w.writes })
    | inr has ↦ inr (record { inner = w.inner; text = w.text; among = has; writes = w.writes })
  ];
  left = λ xs ys q w. record { inner = w.inner; text = w.text; among = has_left xs ys w.text w.among; writes = w.writes };
  right = λ xs ys q w. record { inner = w.inner; text = w.text; among = has_right xs ys w.text w.among; writes = w.writes };
}

pub homes_splits : (space : Space) → Splits (IsHomeIn space)
homes_splits space = record {
  none = λ q h. absurd h.among;
  parts = λ xs ys q h. elim (has_append xs ys h.path h.among) [
    | inl has ↦ inl (record { inner = h.inner; path = h.path; among = has; home = h.home })
    | inr has ↦ inr (record { inner = h.inner; path = h.path; among = has; home = h.home })
  ];
  left = λ xs ys q h. record { inner = h.inner; path = h.path; among = has_left xs ys h.path h.among; home = h.home };
  right = λ xs ys q h. record { inner = h.inner; path = h.path; among = has_right xs ys h.path h.among; home = h.home };
}

pub target_splits : (space : Space) → Splits (IsTarget space)
target_splits space = record {
  none = λ q t. false≢true t.1;
  parts = λ xs ys q t. elim (or_cases (is_target xs q) (is_target ys q) (sym (list_any-append (name_eq q.name) xs ys) ∙ t.1)) [
    | inl e ↦ inl (t.0, e)
    | inr e ↦ inr (t.0, e)
  ];
  left = λ xs ys q t. (t.0, list_any-append (name_eq q.name) xs ys ∙ or_left (is_target xs q) (is_target ys q) t.1);
  right = λ xs ys q t. (t.0, list_any-append (name_eq q.name) xs ys ∙ or_right (is_target xs q) (is_target ys q) t.1);
}

-- ---- one owner

module _ (space : Space) (R : Package → Package → Type 0) (o : ℕ) (p : Package) (at : slice_get (owners space) o ≡ Some p) where
  pub alone_leads : (q : Package) → Leads space R (o ∷ []) q → R p q
  alone_leads q l =
      let same : l.user ≡ p = some_same l.user p (sym l.among.stands ∙ ap (slice_get (owners space)) (sym (has_one o l.among.number l.among.among)) ∙ at) in
      subst (λ u. R u q) same l.needs

  pub leads_alone : (q : Package) → R p q → Leads space R (o ∷ []) q
  leads_alone q r = record { user = p; among = record { number = o; among = inl refl; stands = at }; needs = r }

  pub gains_alone : (old new : List ℕ) → Gains space (R p) old new → Gains space (Leads space R (o ∷ [])) old new
  gains_alone old new gains = gains_as space (R p) (Leads space R (o ∷ [])) old new leads_alone alone_leads gains

  pub alone_gains : (old new : List ℕ) → Gains space (Leads space R (o ∷ [])) old new → Gains space (R p) old new
  alone_gains old new gains = gains_as space (Leads space R (o ∷ [])) (R p) old new alone_leads leads_alone gains
