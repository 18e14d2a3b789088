-- The tasks of kept owners, and the files that they get from anywhere.
use Rattle.std.proofs.Common.{◌≡◌, ◌⊎◌, inl, inr, ◌&&◌, ◌||◌, ℕ, ◌+◌, ◌<◌, Bool, true, false, cond, List, [], ◌∷◌, ◌++◌, length, filter, get_or, take, map, refl, sym, ap, ◌∙◌, subst, arith}
use Rattle.std.specs.Prelude.{Option, Some, None, not, option_to_list}
use Rattle.std.specs.List.{slice_get, list_any}
use Rattle.std.specs.Ordering.{is_eq}
use Rattle.std.specs.BTreeMap.{is_at}
use Rattle.std.proofs.lemmas.Bool.{false≢true, or_cases, or_left, or_right}
use Rattle.std.proofs.lemmas.List.{take_more}
use Rattle.std.proofs.lemmas.Option.{slice_get-get_or}
use Rattle.rel_path.specs.Paths.{Path, name_cmp}
use Rattle.std.specs.Cmp.Lexicographic.{texts_ties}
use Rattle.rel_path.proofs.PathLaws.{name_same, name_cmp_self}
use Rattle.globs.specs.Lists.{list_takes}
use Rattle.workspaces.specs.Lists.{Has}
use Rattle.workspaces.specs.declared.member.Package.{Package}
use Rattle.turbo_config.specs.declared.entry.TaskDef.{TaskDef}
use Rattle.task_definitions.specs.Setup.{Setup, task_def, is_name, is_among, AreNames}
use Rattle.input_entries.specs.declared.entries.InputGlob.{InputGlob}
use Rattle.input_entries.specs.declared.entries.InputList.{InputList}
use Rattle.task_inputs.specs.declared.tasks.TaskGlobs.{TaskGlobs}
use Rattle.task_inputs.specs.Homes.{home_of, is_home}
use Rattle.input_entries.specs.Entries.{any_wide, any_reaches, is_wide, rest_where}
use Rattle.globs.specs.Match.{matches}
use Rattle.task_inputs.specs.Folders.{AreHomes}
use Rattle.task_inputs.specs.Inputs.{is_asked_from_root, may_count, is_global}
use Rattle.task_inputs.specs.Facts.{IsRead, IsList, is_at as is_at_home, home_place, is_wide_list, may_count_in}
use Rattle.task_inputs.specs.Rooted.{IsRooted, ArePicked, ReadsAs, Reads, IsTaskOf, AreTasksOf, AreTasks, far_list, far_by, far_test, are_some}
use Rattle.task_inputs.proofs.Homes.{some_same}
use Rattle.task_inputs.proofs.Rows.{may_is, at_is}

-- ---- lists as sets

has-append : {X : Type 0} (xs ys : List X) (z : X) → Has (xs ++ ys) z → Has xs z ⊎ Has ys z
has-append [] ys z has = inr has
has-append (x ∷ xs) ys z (inl here) = inl (inl here)
has-append (x ∷ xs) ys z (inr later) = elim (has-append xs ys z later) [ inl first ↦ inl (inr first) | inr second ↦ inr second ]

has_left : {X : Type 0} (xs ys : List X) (z : X) → Has xs z → Has (xs ++ ys) z
has_left [] ys z has = absurd has
has_left (x ∷ xs) ys z (inl here) = inl here
has_left (x ∷ xs) ys z (inr later) = inr (has_left xs ys z later)

has_right : {X : Type 0} (xs ys : List X) (z : X) → Has ys z → Has (xs ++ ys) z
has_right [] ys z has = has
has_right (x ∷ xs) ys z has = inr (has_right xs ys z has)

any_has : {X : Type 0} (test : X → Bool) (xs : List X) → list_any test xs ≡ true → (x : X) × (Has xs x) × (test x ≡ true)
any_has test [] e = absurd (false≢true e)
any_has test (x ∷ xs) e = elim (or_cases (test x) (list_any test xs) e) [
  | inl t ↦ (x, inl refl, t)
  | inr t ↦ let r = any_has test xs t in (r.0, inr r.1, r.2)
]

has_any : {X : Type 0} (test : X → Bool) (xs : List X) (x : X) → Has xs x → test x ≡ true → list_any test xs ≡ true
has_any test [] x has t = absurd has
has_any test (y ∷ ys) x (inl here) t = or_left (test y) (list_any test ys) (ap test here ∙ t)
has_any test (y ∷ ys) x (inr later) t = or_right (test y) (list_any test ys) (has_any test ys x later t)

filter_has : {X : Type 0} (test : X → Bool) (xs : List X) (x : X) → Has (filter test xs) x → Has xs x
filter_has test [] x has = absurd has
filter_has test (y ∷ ys) x has = by (test y) has (filter_has test ys x) where
  by : (b : Bool) → Has (cond b (y ∷ filter test ys) (filter test ys)) x → (Has (filter test ys) x → Has ys x) → Has (y ∷ ys) x
  by true (inl here) more = inl here
  by true (inr later) more = inr (more later)
  by false h more = inr (more h)

has_filter : {X : Type 0} (test : X → Bool) (xs : List X) (x : X) → Has xs x → test x ≡ true → Has (filter test xs) x
has_filter test [] x has t = absurd has
has_filter test (y ∷ ys) x has t = by (test y) refl has (λ h. has_filter test ys x h t) where
  by : (b : Bool) → test y ≡ b → Has (y ∷ ys) x → (Has ys x → Has (filter test ys) x) → Has (cond b (y ∷ filter test ys) (filter test ys)) x
  by true e (inl here) more = inl here
  by true e (inr later) more = inr (more later)
  by false e (inl here) more = absurd (false≢true (sym e ∙ ap test here ∙ t))
  by false e (inr later) more = more later

-- ---- one task

pub reads_one : (setup : Setup) (members : List Package) (place : ℕ) (own name : List ℕ) (def : Option TaskDef) (found : Option TaskGlobs) → place < length members → ((d : Package) → own ≡ (get_or members place d).name) → def ≡ task_def setup own name → ReadsAs members place def found → Reads setup members place name found
reads_one setup members place own name def found less its is read = by members refl less where
  by : (ps : List Package) → ps ≡ members → place < length members → Reads setup members place name found
  by [] e l = absurd (omega (arith, ap length e))
  by (d ∷ ps) e l = record {
    member = get_or members place d;
    stands = slice_get-get_or members place d l;
    read = subst (λ o. ReadsAs members place o found) (is ∙ ap (λ n. task_def setup n name) (its d)) read;
  }

module _ (setup : Setup) (members : List Package) (place : ℕ) where
  pub task_more : (names : List (List ℕ)) (name : List ℕ) (tasks : List TaskGlobs) (found : Option TaskGlobs) → AreTasksOf setup members place names tasks → Reads setup members place name found → AreTasksOf setup members place (names ++ name ∷ []) (tasks ++ option_to_list found)
  task_more names name tasks found before r = record {
    sound = λ task has. elim (has-append tasks (option_to_list found) task has) [
      | inl old ↦ let b = before.sound task old in (b.0, has_left names (name ∷ []) b.0 b.1, b.2)
      | inr new ↦ (name, has_right names (name ∷ []) name (inl refl), fresh found refl (task_def setup r.member.name name) refl r.read task new)
    ];
    whole = λ n member def has at is. elim (has-append names (name ∷ []) n has) [
      | inl old ↦ let b = before.whole n member def old at is in (b.0, has_left tasks (option_to_list found) b.0 b.1, b.2)
      | inr new ↦ elim new [
        | inl here ↦ there found refl def (ap (λ (m : Package). task_def setup m.name name) (some_same r.member member (sym r.stands ∙ at)) ∙ ap (task_def setup member.name) here ∙ is)
        | inr none ↦ absurd none
      ]
    ];
  } where
    fresh : (o : Option TaskGlobs) → found ≡ o → (d : Option TaskDef) → task_def setup r.member.name name ≡ d → ReadsAs members place d o → (task : TaskGlobs) → Has (option_to_list o) task → IsTaskOf setup members place name task
    fresh None e d f read task has = absurd has
    fresh (Some t) e None f read task has = absurd read
    fresh (Some t) e (Some def) f read task (inl here) = record { member = r.member; stands = r.stands; def = def; defined = f; read = subst (λ (x : TaskGlobs). IsRead members (record { owner = place; def = def }) x) here read }
    fresh (Some t) e (Some def) f read task (inr none) = absurd none

    there : (o : Option TaskGlobs) → found ≡ o → (def : TaskDef) → task_def setup r.member.name name ≡ Some def → (task : TaskGlobs) × (Has (tasks ++ option_to_list found) task) × IsRead members (record { owner = place; def = def }) task
    there None e def f = absurd (subst (λ o. ReadsAs members place o None) f (subst (λ o. ReadsAs members place (task_def setup r.member.name name) o) e r.read))
    there (Some t) e def f = (t, has_right tasks (option_to_list found) t (subst (λ o. Has (option_to_list o) t) (sym e) (inl refl)), subst (λ o. ReadsAs members place o (Some t)) f (subst (λ o. ReadsAs members place (task_def setup r.member.name name) o) e r.read))

  pub task_next : (names : List (List ℕ)) (i : ℕ) (name : List ℕ) (found : Option TaskGlobs) (old new : List TaskGlobs) → i < length names → name ≡ get_or names i name → AreTasksOf setup members place (take i names) old → Reads setup members place name found → new ≡ old ++ option_to_list found → AreTasksOf setup members place (take (i + 1) names) new
  task_next names i name found old new less is before r put =
      subst (λ ns. AreTasksOf setup members place ns new) (sym (take_more names i name less ∙ ap (λ n. take i names ++ n ∷ []) (sym is))) (rw put (task_more (take i names) name old found before r))

-- ---- several owners

module _ (setup : Setup) (members : List Package) (names : List (List ℕ)) where
  pub kept_more : (kept : List ℕ) (place : ℕ) (tasks more : List TaskGlobs) → AreTasks setup members kept names tasks → AreTasksOf setup members place names more → AreTasks setup members (kept ++ place ∷ []) names (tasks ++ more)
  kept_more kept place tasks more before here = record {
    sound = λ task has. elim (has-append tasks more task has) [
      | inl old ↦ let b = before.sound task old in (b.0, has_left kept (place ∷ []) b.0 b.1, b.2, b.3, b.4)
      | inr new ↦ let h = here.sound task new in (place, has_right kept (place ∷ []) place (inl refl), h.0, h.1, h.2)
    ];
    whole = λ p name member def has among at is. elim (has-append kept (place ∷ []) p has) [
      | inl old ↦ let b = before.whole p name member def old among at is in (b.0, has_left tasks more b.0 b.1, b.2)
      | inr new ↦ elim new [
        | inl same ↦ let h = here.whole name member def among (ap (slice_get members) same ∙ at) is in (h.0, has_right tasks more h.0 h.1, subst (λ n. IsRead members (record { owner = n; def = def }) h.0) same h.2)
        | inr none ↦ absurd none
      ]
    ];
  }

  pub kept_next : (kept : List ℕ) (i : ℕ) (place : ℕ) (old more new : List TaskGlobs) → i < length kept → place ≡ get_or kept i 0 → AreTasks setup members (take i kept) names old → AreTasksOf setup members place names more → new ≡ old ++ more → AreTasks setup members (take (i + 1) kept) names new
  kept_next kept i place old more new less is before here put =
      subst (λ ps. AreTasks setup members ps names new) (sym (take_more kept i 0 less ∙ ap (λ p. take i kept ++ p ∷ []) (sym is))) (rw put (kept_more (take i kept) place old more before here))

-- ---- the files

wide_any : (entries : List InputGlob) (path : Path) → any_wide entries path ≡ true → list_any is_wide entries ≡ true
unfolding any_wide
wide_any [] path e = absurd (false≢true e)
wide_any (x ∷ xs) path e = elim (or_cases (is_wide x && matches x.glob path) (list_any (λ y. is_wide y && matches y.glob path) xs) e) [
  | inl t ↦ or_left (is_wide x) (list_any is_wide xs) (front (is_wide x) (matches x.glob path) t)
  | inr t ↦ or_right (is_wide x) (list_any is_wide xs) (wide_any xs path t)
] where
  front : (a b : Bool) → (a && b) ≡ true → a ≡ true
  front true b e = refl
  front false b e = absurd (false≢true e)

and_both : (a b : Bool) → (a && b) ≡ true → (a ≡ true) × (b ≡ true)
and_both true b e = (refl, e)
and_both false b e = absurd (false≢true e)

far_wide : (home : Option ℕ) (task : TaskGlobs) (path : Path) → far_by home task path ≡ true → is_wide_list task.inputs ≡ true
far_wide home task path e = by task.inputs e where
  by : (o : Option InputList) → far_list o path (rest_where (is_at_home home task.place) task.folder path) ≡ true → is_wide_list o ≡ true
  by None f = absurd (false≢true f)
  by (Some list) f = wide_any list.globs.items path (and_both (any_wide list.globs.items path) (not (any_reaches true list.globs.items path (rest_where (is_at_home home task.place) task.folder path))) f).0

far_is : (members : List Package) (place : ℕ) (def : TaskDef) (task : TaskGlobs) (r : IsRead members (record { owner = place; def = def }) task) (home : Option ℕ) (path : Path) → is_at_home home task.place ≡ is_home members r.member path → far_by home task path ≡ is_asked_from_root members r.member def.inputs path
far_is members place def task r home path own = rw (own, r.folder) (by def.inputs task.inputs r.inputs) where
  by : (texts : Option (List (List ℕ))) (inputs : Option InputList) → IsList texts inputs → far_list inputs path (rest_where (is_home members r.member path) r.member.folder path) ≡ is_asked_from_root members r.member texts path
  by None None l = refl
  by None (Some list) l = absurd l
  by (Some texts) None l = absurd l
  by (Some texts) (Some list) l = rw l.0 refl

some_task : (tasks : List TaskGlobs) → are_some tasks ≡ true → (task : TaskGlobs) × Has tasks task
some_task [] e = absurd (false≢true e)
some_task (t ∷ ts) e = (t, inl refl)

task_some : (tasks : List TaskGlobs) (task : TaskGlobs) → Has tasks task → are_some tasks ≡ true
task_some [] task has = absurd has
task_some (t ∷ ts) task has = refl

name_among : (names : List (List ℕ)) (name : List ℕ) → Has names name → is_among names name ≡ true
name_among names name has = has_any (is_at (name_cmp name)) names name has (self name) where
  self : (n : List ℕ) → is_at (name_cmp n) n ≡ true
  self n = ap is_eq (name_cmp_self n)

module _ (setup : Setup) (members : List Package) (kept : List ℕ) (names : List (List ℕ)) (tasks : List TaskGlobs) (are : AreNames setup names) (all : AreTasks setup members kept names tasks) (homes : AreHomes (map (home_of setup) members)) where
  abbrev home : Path → Option ℕ
  home path = home_place (map (home_of setup) members) path

  own_is : (path : Path) (place : ℕ) (def : TaskDef) (task : TaskGlobs) (r : IsRead members (record { owner = place; def = def }) task) → is_at_home (home path) task.place ≡ is_home members r.member path
  own_is path place def task r = at_is setup members path task.place r.member homes (ap (slice_get members) r.place ∙ r.stands)

  one : (path : Path) → may_count setup members path ≡ true → (task : TaskGlobs) → Has tasks task → (far_by (home path) task path || is_global setup path) ≡ true → IsRooted setup members kept path
  one path count task has far =
      let s = all.sound task has in
      let t = s.4 in
      let same : t.member ≡ t.read.member = some_same t.member t.read.member (sym t.stands ∙ t.read.stands) in
      record {
        place = s.0;
        is_kept = s.1;
        member = t.member;
        stands = t.stands;
        task = s.2;
        named = sym (are.exact s.2) ∙ name_among names s.2 s.3;
        def = t.def;
        defined = t.defined;
        far = rw (count, same, ← far_is members s.0 t.def task t.read (home path) path (own_is path s.0 t.def task t.read)) far;
      }

  pub picked_are : (any : Bool) (wide : List TaskGlobs) (walk picked : List Path) → any ≡ are_some tasks → wide ≡ filter (λ (t : TaskGlobs). is_wide_list t.inputs) tasks → picked ≡ filter (far_test (map (home_of setup) members) setup.globals.inputs any wide) walk → ArePicked (IsRooted setup members kept) walk picked
  unfolding far_test
  picked_are any wide walk picked there_is is put = record {
    test = far_test (map (home_of setup) members) setup.globals.inputs any wide;
    sound = λ path e. sound path (and_both (may_count_in (map (home_of setup) members) path) ((any && list_takes setup.globals.inputs path) || list_any (λ (t : TaskGlobs). far_by (home path) t path) wide) e);
    whole = λ path r. whole path r;
    are = put;
  } where
    sound : (path : Path) → (may_count_in (map (home_of setup) members) path ≡ true) × (((any && list_takes setup.globals.inputs path) || list_any (λ (t : TaskGlobs). far_by (home path) t path) wide) ≡ true) → IsRooted setup members kept path
    sound path e =
        let count : may_count setup members path ≡ true = sym (may_is setup members path) ∙ e.0 in
        elim (or_cases (any && list_takes setup.globals.inputs path) (list_any (λ (t : TaskGlobs). far_by (home path) t path) wide) e.1) [
          | inl g ↦ let b = and_both any (list_takes setup.globals.inputs path) g in let t = some_task tasks (sym there_is ∙ b.0) in one path count t.0 t.1 (or_right (far_by (home path) t.0 path) (is_global setup path) b.1)
          | inr w ↦ let t = any_has (λ (t : TaskGlobs). far_by (home path) t path) wide w in one path count t.0 (filter_has (λ (t : TaskGlobs). is_wide_list t.inputs) tasks t.0 (subst (λ ts. Has ts t.0) is t.1)) (or_left (far_by (home path) t.0 path) (is_global setup path) t.2)
        ]

    whole : (path : Path) → IsRooted setup members kept path → far_test (map (home_of setup) members) setup.globals.inputs any wide path ≡ true
    whole path r =
        let far = and_both (may_count setup members path) (is_asked_from_root members r.member r.def.inputs path || is_global setup path) r.far in
        let t = all.whole r.place r.task r.member r.def r.is_kept (among r.task r.named) r.stands r.defined in
        let same : r.member ≡ t.2.member = some_same r.member t.2.member (sym r.stands ∙ t.2.stands) in
        let there : any ≡ true = there_is ∙ task_some tasks t.0 t.1 in
        rw (may_is setup members path, far.0, there) (elim (or_cases (is_asked_from_root members r.member r.def.inputs path) (is_global setup path) far.1) [
          | inl a ↦
              let by_root : far_by (home path) t.0 path ≡ true = far_is members r.place r.def t.0 t.2 (home path) path (own_is path r.place r.def t.0 t.2) ∙ ap (λ (m : Package). is_asked_from_root members m r.def.inputs path) (sym same) ∙ a in
              or_right (is_global setup path) (list_any (λ (x : TaskGlobs). far_by (home path) x path) wide) (has_any (λ (x : TaskGlobs). far_by (home path) x path) wide t.0 (subst (λ ts. Has ts t.0) (sym is) (has_filter (λ (x : TaskGlobs). is_wide_list x.inputs) tasks t.0 t.1 (far_wide (home path) t.0 path by_root))) by_root)
          | inr g ↦ or_left (is_global setup path) (list_any (λ (x : TaskGlobs). far_by (home path) x path) wide) g
        ]) where
          among : (name : List ℕ) → is_name setup name ≡ true → Has names name
          among name e = let x = any_has (is_at (name_cmp name)) names (are.exact name ∙ e) in subst (λ n. Has names n) (sym (name_same name x.0 (texts_ties name x.0 ∙ x.2))) x.1
