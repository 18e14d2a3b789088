-- Texts of `dependsOn`, the owners that they name, and the names of tasks.
use Rattle.std.proofs.Common.{◌≡◌, inl, inr, ◌&&◌, ◌||◌, ℕ, ◌+◌, Bool, true, false, cond, List, [], ◌∷◌, ◌++◌, length, refl, sym, ap, ◌∙◌, subst, arith}
use Rattle.std.specs.Prelude.{Some, None, not}
use Rattle.std.specs.List.{before_first, position_or_len}
use Rattle.std.specs.BTreeMap.{is_at}
use Rattle.std.specs.Ordering.{is_eq}
use Rattle.std.specs.Cmp.Lexicographic.{texts_ties}
use Rattle.std.proofs.lemmas.Bool.{false≢true, or_left}
use Rattle.rel_path.specs.Paths.{name_eq, name_cmp}
use Rattle.rel_path.proofs.PathLaws.{name_same, name_self, name_cmp_self}
use Rattle.workspaces.specs.declared.member.Package.{Package}
use Rattle.workspaces.specs.Lists.{Has}
use Rattle.workspaces.specs.Space.{Space, owners, owner_named, IsOwnerAt}
use Rattle.turbo_config.specs.declared.entry.TaskDef.{TaskDef}
use Rattle.turbo_config.specs.Names.{begins_caret}
use Rattle.task_definitions.specs.Setup.{Setup, task_def, is_name, AreNames}
use Rattle.task_graph.specs.Tasks.{is_hash, is_full}
use Rattle.repository.specs.Reading.{Contents}
use Rattle.kept_packages.specs.Kept.{names_package, NamesTaskOf}
use Rattle.kept_packages.specs.Needs.{Gains}
use Rattle.kept_packages.specs.Steps.{package_of, NamesOwner, TaskNames, AnyTaskNames}
use Rattle.kept_packages.proofs.Lists.{some_same, or_none, any_has, has_any}
use Rattle.kept_packages.proofs.Gains.{held, there, gains_one, gains_as}

-- ---- one text

front_is : (plain full : Bool) (front name : List ℕ) → cond (plain && full) (Some front) None ≡ Some name → (plain && (full && name_eq front name)) ≡ true
front_is true true front name e = ap (name_eq front) (sym (some_same front name e)) ∙ name_self front
front_is true false front name e = cc
front_is false full front name e = cc

is_front : (plain full : Bool) (front name : List ℕ) → (plain && (full && name_eq front name)) ≡ true → cond (plain && full) (Some front) None ≡ Some name
is_front true true front name e = ap (λ n. Some n) (name_same front name e)
is_front true false front name e = absurd (false≢true e)
is_front false full front name e = absurd (false≢true e)

-- a text without `#` names none
pub no_hash : (text : List ℕ) → position_or_len is_hash text ≡ length text → package_of text ≡ None
no_hash text same = by (not (begins_caret text)) (is_full text) (none text same) where
  none : (bytes : List ℕ) → position_or_len is_hash bytes ≡ length bytes → is_full bytes ≡ false
  none [] same = refl
  none (b ∷ bs) same = inner (is_hash b) same (none bs) where
    inner : (t : Bool) → cond (not t) (1 + position_or_len is_hash bs) 0 ≡ length (b ∷ bs) → (position_or_len is_hash bs ≡ length bs → is_full bs ≡ false) → (t || is_full bs) ≡ false
    inner true same more = absurd (omega (arith, same))
    inner false same more = more (omega (arith, same))

  by : (plain full : Bool) → full ≡ false → cond (plain && full) (Some (before_first is_hash text)) None ≡ None
  by true full e = ap (λ b. cond b (Some (before_first is_hash text)) None) e
  by false full e = refl

module _ (space : Space) (text : List ℕ) where
  its_package : (q : Package) (n : NamesOwner space (text ∷ []) q) → package_of text ≡ Some n.name
  its_package q n = is_front (not (begins_caret text)) (is_full text) (before_first is_hash text) n.name (or_none (names_package n.name text) n.named)

  pub text_none : package_of text ≡ None → (q : Package) → NamesOwner space (text ∷ []) q → ⊥
  text_none none q n = let some : package_of text ≡ Some n.name = its_package q n in cc

  pub text_nobody : (name : List ℕ) → package_of text ≡ Some name → owner_named space name ≡ None → (q : Package) → NamesOwner space (text ∷ []) q → ⊥
  text_nobody name is none q n =
      let same : name ≡ n.name = some_same name n.name (sym is ∙ its_package q n) in
      let found : owner_named space name ≡ Some q = ap (owner_named space) same ∙ n.is in
      cc

  pub text_owner : (name : List ℕ) (o : ℕ) (old new : List ℕ) → package_of text ≡ Some name → IsOwnerAt space name o → new ≡ old ++ o ∷ [] → Gains space (NamesOwner space (text ∷ [])) old new
  text_owner name o old new is owner put =
      let m = there (owners space) o owner.0 in
      let its : owner_named space name ≡ Some m.0 = held (λ (p : Package). owner_named space name ≡ Some p) (owners space) o m.0 owner.1 m.1 in
      let named = front_is (not (begins_caret text)) (is_full text) (before_first is_hash text) name is in
      gains_one space (NamesOwner space (text ∷ [])) old new o put
      (record { member = m.0; stands = m.1; is = record { name = name; named = or_left (names_package name text) false named; is = its } })
      (λ q n. let same : name ≡ n.name = some_same name n.name (sym is ∙ its_package q n) in m.1 ∙ sym its ∙ ap (owner_named space) same ∙ n.is)

-- ---- tasks

module _ (space : Space) (setup : Setup) (owner task : List ℕ) where
  pub task_none : task_def setup owner task ≡ None → (q : Package) → TaskNames space setup owner task q → ⊥
  task_none none q n = let some : task_def setup owner task ≡ Some n.def = n.defined in cc

  pub task_some : (def : TaskDef) (old new : List ℕ) → task_def setup owner task ≡ Some def → Gains space (NamesOwner space def.depends_on) old new → Gains space (TaskNames space setup owner task) old new
  task_some def old new is gains = gains_as space (NamesOwner space def.depends_on) (TaskNames space setup owner task) old new
      (λ q n. record { def = def; defined = is; names = n })
      (λ q n. subst (λ (d : TaskDef). NamesOwner space d.depends_on q) (some_same n.def def (sym n.defined ∙ is)) n.names)
      gains

  pub task_one : (old new : List ℕ) → Gains space (TaskNames space setup owner task) old new → Gains space (AnyTaskNames space setup owner (task ∷ [])) old new
  task_one old new gains = gains_as space (TaskNames space setup owner task) (AnyTaskNames space setup owner (task ∷ [])) old new
      (λ q n. record { task = task; among = inl refl; names = n })
      (λ q n. subst (λ t. TaskNames space setup owner t q) (sym (only_one n.task n.among)) n.names)
      gains where
        only_one : (t : List ℕ) → Has (task ∷ []) t → task ≡ t
        only_one t (inl here) = here
        only_one t (inr none) = absurd none

-- ---- the names of tasks

tie_is : (a b : List ℕ) → is_at (name_cmp a) b ≡ true → a ≡ b
tie_is a b e = name_same a b (texts_ties a b ∙ e)

tie_self : (a : List ℕ) → is_at (name_cmp a) a ≡ true
tie_self a = ap is_eq (name_cmp_self a)

listed_has : (setup : Setup) (names : List (List ℕ)) → AreNames setup names → (name : List ℕ) → is_name setup name ≡ true → Has names name
listed_has setup names are name e = let x = any_has (is_at (name_cmp name)) names (are.exact name ∙ e) in subst (λ n. Has names n) (sym (tie_is name x.0 x.2)) x.1

has_listed : (setup : Setup) (names : List (List ℕ)) → AreNames setup names → (name : List ℕ) → Has names name → is_name setup name ≡ true
has_listed setup names are name has = sym (are.exact name) ∙ has_any (is_at (name_cmp name)) names name has (tie_self name)

-- the owners that all tasks of an owner name
pub all_named : (contents : Contents) (p : Package) (names : List (List ℕ)) (old new : List ℕ) → AreNames contents.setup names → Gains contents.space (AnyTaskNames contents.space contents.setup p.name names) old new → Gains contents.space (NamesTaskOf contents p) old new
all_named contents p names old new are gains = gains_as contents.space (AnyTaskNames contents.space contents.setup p.name names) (NamesTaskOf contents p) old new
    (λ q n. record { task = n.task; listed = has_listed contents.setup names are n.task n.among; def = n.names.def; defined = n.names.defined; name = n.names.names.name; named = n.names.names.named; is = n.names.names.is })
    (λ q n. record { task = n.task; among = listed_has contents.setup names are n.task n.listed; names = record { def = n.def; defined = n.defined; names = record { name = n.name; named = n.named; is = n.is } } })
    gains
