-- The places of the files that a task takes.
use Rattle.std.proofs.Common.{◌≡◌, ◌==◌, ◌&&◌, ◌||◌, ℕ, zero, suc, ◌+◌, ◌<◌, Bool, true, false, cond, List, [], ◌∷◌, ◌++◌, length, map, filter, get_or, refl, sym, ap, ◌∙◌, subst, arith}
use Rattle.std.specs.Prelude.{Option, Some, None, IfSome, Result, Ok, Err, IfOk, not, codes}
use Rattle.std.specs.Option.{option_map}
use Rattle.std.specs.List.{slice_get, AllByRecursion}
use Rattle.std.proofs.lemmas.Bool.{false≢true, eqb-true, eq-eqb}
use Rattle.std.proofs.lemmas.List.{length-map}
use Rattle.std.proofs.lemmas.Option.{slice_get_within, get_or_from_slice_get}
use Rattle.rel_path.specs.Paths.{Path, path_eq}
use Rattle.globs.specs.Lists.{is_kind}
use Rattle.globs.specs.Match.{matches}
use Rattle.workspaces.specs.declared.member.Package.{Package}
use Rattle.workspaces.specs.Lists.{places}
use Rattle.workspaces.specs.Space.{is_home_of, is_root_folder, manifest_in, manifest_name}
use Rattle.task_definitions.specs.Setup.{Setup}
use Rattle.task_inputs.specs.declared.definitions.DefinedTask.{DefinedTask}
use Rattle.input_entries.specs.declared.entries.Base.{Base}
use Rattle.input_entries.specs.declared.entries.Base.TheVariants.{Root, Owner}
use Rattle.input_entries.specs.declared.entries.InputGlob.{InputGlob}
use Rattle.input_entries.specs.declared.entries.InputList.{InputList}
use Rattle.task_inputs.specs.declared.files.FileFacts.{FileFacts}
use Rattle.task_inputs.specs.declared.table.Table.{Table}
use Rattle.task_inputs.specs.declared.tasks.TaskGlobs.{TaskGlobs}
use Rattle.task_inputs.specs.Homes.{Home, home_of, folders_of, is_declared, is_home}
use Rattle.input_entries.specs.Entries.{entries_of, has_default, rest_where, matches_from, any_reaches, is_wide, any_wide}
use Rattle.task_inputs.specs.Inputs.{may_count, is_input, is_asked, is_explicit, is_default, is_global, always_counts, input_row, row_of}
use Rattle.task_inputs.specs.Facts.{place_by, home_place, may_count_in, fact_by, is_at, IsList, IsRead, asked_by, takes_by, merged, AreHomesBelow}
use Rattle.task_inputs.specs.Tables.{unknown, takes_at, IsTable, close, looked, IsLooked, IsRowOf}
use Rattle.task_inputs.specs.WideLists.{wide_by}
use Rattle.task_inputs.specs.Folders.{AreHomes}
use Rattle.task_inputs.proofs.Homes.{get-map, got-map, any-map, some_same, not_true, is_its, place_is, file_its}
use Rattle.task_inputs.proofs.Places.{places-map, merged_places}

-- ---- the first that passes

pub by_passes : {X : Type 0} (test : X → Bool) (xs : List X) (n : ℕ) → place_by test xs ≡ Some n → (x : X) × (slice_get xs n ≡ Some x) × (test x ≡ true)
by_passes test [] n e = cc
by_passes test (x ∷ xs) n e = by (test x) refl e (by_passes test xs) where
  by : (b : Bool) → test x ≡ b → cond b (Some 0) (option_map suc (place_by test xs)) ≡ Some n → ((m : ℕ) → place_by test xs ≡ Some m → (y : _) × (slice_get xs m ≡ Some y) × (test y ≡ true)) → (y : _) × (slice_get (x ∷ xs) n ≡ Some y) × (test y ≡ true)
  by true t f more = let z : 0 ≡ n = cc in (x, subst (λ k. slice_get (x ∷ xs) k ≡ Some x) z refl, t)
  by false t f more = later (place_by test xs) refl f where
    later : (o : Option ℕ) → place_by test xs ≡ o → option_map suc o ≡ Some n → (y : _) × (slice_get (x ∷ xs) n ≡ Some y) × (test y ≡ true)
    later None g h = cc
    later (Some m) g h = let z : suc m ≡ n = cc in let y = more m g in (y.0, subst (λ k. slice_get (x ∷ xs) k ≡ Some y.0) z y.1, y.2)

pub homes_below : (ignored : Path → Bool) (homes : List Home) (taken : List (List ℕ)) (walk : List Path) → AreHomesBelow (length homes) (map (fact_by ignored homes taken) walk)
unfolding fact_by home_place
homes_below ignored homes taken [] = tt
homes_below ignored homes taken (path ∷ walk) = (one (place_by (is_its homes path) homes) refl, homes_below ignored homes taken walk) where
  one : (o : Option ℕ) → place_by (is_its homes path) homes ≡ o → IfSome o (λ home. home < length homes)
  one None e = tt
  one (Some n) e = let h = by_passes (is_its homes path) homes n e in slice_get_within homes n h.0 h.1

pub home_is : (homes : List Home) (path : Path) (n : ℕ) → home_place homes path ≡ Some n → (h : Home) × (slice_get homes n ≡ Some h) × (is_its homes path h ≡ true)
unfolding home_place
home_is homes path n e = by_passes (is_its homes path) homes n e

-- ---- where a task looks

pub places_below : {X : Type 0} (test : X → Bool) (xs : List X) → AllByRecursion (λ k. k < length xs) (places test xs)
unfolding places
places_below test [] = tt
places_below test (x ∷ xs) = by (test x) (shifted (places test xs) (places_below test xs)) where
  shifted : (ks : List ℕ) → AllByRecursion (λ k. k < length xs) ks → AllByRecursion (λ k. k < length (x ∷ xs)) (map suc ks)
  shifted [] all = tt
  shifted (k ∷ ks) all = (let l = all.0 in omega (arith, l), shifted ks all.1)

  by : (b : Bool) → AllByRecursion (λ k. k < length (x ∷ xs)) (map suc (places test xs)) → AllByRecursion (λ k. k < length (x ∷ xs)) (cond b (zero ∷ map suc (places test xs)) (map suc (places test xs)))
  by true all = (omega arith, all)
  by false all = all

module _ (ignored : Path → Bool) (homes : List Home) (taken : List (List ℕ)) (walk : List Path) (table : Table) (is : IsTable ignored homes taken walk table) where
  pub same_length : length table.files.items ≡ length walk
  same_length = ap length is.files ∙ length-map walk (fact_by ignored homes taken)

  pub close_is : (place : ℕ) → place < length homes → close table place ≡ places (λ (f : FileFacts). is_at f.home place || f.global) table.files.items
  close_is place less =
      let near : get_or table.near.items place [] ≡ places (λ (f : FileFacts). is_at f.home place) table.files.items = is.near place (omega (arith, less, is.count)) in
      rw (near, is.globals) (merged_places (λ (f : FileFacts). is_at f.home place) (λ (f : FileFacts). f.global) table.files.items _ (omega arith))

  below_walk : (test : FileFacts → Bool) → AllByRecursion (λ k. k < length walk) (places test table.files.items)
  below_walk test = subst (λ n. AllByRecursion (λ k. k < n) (places test table.files.items)) same_length (places_below test table.files.items)

  pub looked_well : (place : ℕ) → place < length homes → IsLooked walk place table
  looked_well place less = record {
    same = same_length;
    few = is.few;
    stands = omega (arith, less, is.count);
    narrow = subst (AllByRecursion (λ k. k < length walk)) (sym (close_is place less)) (below_walk (λ (f : FileFacts). is_at f.home place || f.global));
  }

-- ---- places that pass, of places at which one looks

filter_suc : (f : ℕ → Bool) (ks : List ℕ) → filter f (map suc ks) ≡ map suc (filter (λ k. f (suc k)) ks)
filter_suc f [] = refl
filter_suc f (k ∷ ks) = by (f (suc k)) (filter_suc f ks) where
  by : (b : Bool) → filter f (map suc ks) ≡ map suc (filter (λ k. f (suc k)) ks) → cond b (suc k ∷ filter f (map suc ks)) (filter f (map suc ks)) ≡ map suc (cond b (k ∷ filter (λ k. f (suc k)) ks) (filter (λ k. f (suc k)) ks))
  by true e = ap (λ ns. suc k ∷ ns) e
  by false e = e

pub filter_places : {X : Type 0} (looks test : X → Bool) (f : ℕ → Bool) (xs : List X) → ((i : ℕ) (x : X) → slice_get xs i ≡ Some x → f i ≡ test x) → ((x : X) → test x ≡ true → looks x ≡ true) → filter f (places looks xs) ≡ places test xs
unfolding places
filter_places looks test f [] same enough = refl
filter_places looks test f (x ∷ xs) same enough = by (looks x) refl (test x) refl (filter_suc f (places looks xs) ∙ ap (map suc) (filter_places looks test (λ k. f (suc k)) xs (λ i y at. same (suc i) y at) enough)) where
  by : (l : Bool) → looks x ≡ l → (t : Bool) → test x ≡ t → filter f (map suc (places looks xs)) ≡ map suc (places test xs) → filter f (cond l (zero ∷ map suc (places looks xs)) (map suc (places looks xs))) ≡ cond t (zero ∷ map suc (places test xs)) (map suc (places test xs))
  by true a true b e = rw (same 0 x refl, b) (ap (λ ns. 0 ∷ ns) e)
  by true a false b e = rw (same 0 x refl, b) e
  by false a true b e = absurd (false≢true (sym a ∙ enough x b))
  by false a false b e = e

-- ---- a task and a file

same_folders : (setup : Setup) (members : List Package) → folders_of (map (home_of setup) members) ≡ map (λ (q : Package). q.folder) members
same_folders setup [] = refl
same_folders setup (p ∷ ps) = ap (λ fs. p.folder ∷ fs) (same_folders setup ps)

module _ (setup : Setup) (members : List Package) (path : Path) where
  pub may_is : may_count_in (map (home_of setup) members) path ≡ may_count setup members path
  unfolding may_count_in
  may_is = ap (λ b. not (is_declared setup members path) && not b) (any-map (home_of setup) (λ (h : Home). not (is_root_folder h.folder) && path_eq path (manifest_in h.folder)) members)

  its_is : (p : Package) → is_its (map (home_of setup) members) path (home_of setup p) ≡ is_home members p path
  its_is p = ap (λ fs. is_home_of fs p.folder path) (same_folders setup members)

  -- the home of the path is the owner at the place
  pub at_is : (place : ℕ) (p : Package) → AreHomes (map (home_of setup) members) → slice_get members place ≡ Some p → is_at (home_place (map (home_of setup) members) path) place ≡ is_home members p path
  at_is place p are at = by (is_home members p path) refl where
    by : (b : Bool) → is_home members p path ≡ b → is_at (home_place (map (home_of setup) members) path) place ≡ b
    by true e =
        let at_home : slice_get (map (home_of setup) members) place ≡ Some (home_of setup p) = get-map (home_of setup) members place ∙ ap (option_map (home_of setup)) at in
        ap (λ o. is_at o place) (sym (place_is (map (home_of setup) members) path (Some place) are (home_of setup p, at_home, its_is p ∙ e))) ∙ eq-eqb place place refl
    by false e = none (home_place (map (home_of setup) members) path) refl where
      none : (o : Option ℕ) → home_place (map (home_of setup) members) path ≡ o → is_at o place ≡ false
      none None f = refl
      none (Some n) f = other (n == place) refl where
        other : (b : Bool) → (n == place) ≡ b → b ≡ false
        other false g = refl
        other true g =
            let h = home_is (map (home_of setup) members) path n f in
            let q = got-map (home_of setup) members n h.0 h.1 in
            let same : q.0 ≡ p = some_same q.0 p (sym q.1 ∙ ap (slice_get members) (eqb-true n place g) ∙ at) in
            let its : is_its (map (home_of setup) members) path (home_of setup p) ≡ true = ap (λ (m : Package). is_its (map (home_of setup) members) path (home_of setup m)) (sym same) ∙ ap (is_its (map (home_of setup) members) path) q.2 ∙ h.2 in
            absurd (false≢true (sym e ∙ sym (its_is p) ∙ its))

-- an entry that reaches a path outside of the folder, and does not exclude, is one of the root that matches it
wide_entry : (entry : InputGlob) (path : Path) → (is_kind entry.excluded false && matches_from entry.base entry.glob path None) ≡ true → (is_wide entry && matches entry.glob path) ≡ true
wide_entry entry path e = by entry.base refl entry.excluded refl e where
  by : (base : Base) → entry.base ≡ base → (x : Bool) → entry.excluded ≡ x → (is_kind x false && matches_from base entry.glob path None) ≡ true → (is_wide entry && matches entry.glob path) ≡ true
  by Root b false x f = rw (b, x) f
  by Root b true x f = cc
  by Owner b false x f = cc
  by Owner b true x f = cc

no_reach : (entries : List InputGlob) (path : Path) → any_wide entries path ≡ false → any_reaches false entries path None ≡ false
unfolding any_reaches any_wide
no_reach [] path none = refl
no_reach (entry ∷ entries) path none = by (is_kind entry.excluded false && matches_from entry.base entry.glob path None) refl (is_wide entry && matches entry.glob path) refl none (no_reach entries path) where
  by : (b : Bool) → (is_kind entry.excluded false && matches_from entry.base entry.glob path None) ≡ b → (w : Bool) → (is_wide entry && matches entry.glob path) ≡ w → (w || any_wide entries path) ≡ false → (any_wide entries path ≡ false → any_reaches false entries path None ≡ false) → (b || any_reaches false entries path None) ≡ false
  by true e true f g more = absurd (false≢true (sym g))
  by true e false f g more = absurd (false≢true (sym f ∙ wide_entry entry path e))
  by false e true f g more = absurd (false≢true (sym g))
  by false e false f g more = more g

or_true : (b : Bool) → (b || true) ≡ true
or_true true = refl
or_true false = refl

and_none : (b : Bool) → (b && false) ≡ false
and_none true = refl
and_none false = refl

none_left : (d x : Bool) → ((false || (d && false)) && not x) ≡ false
none_left true x = refl
none_left false x = refl

-- the owner's own `package.json` and `turbo.json` have their home there
pub never_always : (members : List Package) (p : Package) (path : Path) → is_home members p path ≡ false → always_counts p path ≡ false
never_always members p path away = rw (never_file manifest_name, never_file (codes "turbo.json")) refl where
  never_file : (name : List ℕ) → path_eq path (p.folder ++ name ∷ []) ≡ false
  never_file name = not_true (path_eq path (p.folder ++ name ∷ [])) (λ e. false≢true (sym away ∙ file_its (map (λ (q : Package). q.folder) members) p.folder path name e))

module _ (ignored : Path → Bool) (setup : Setup) (members : List Package) (are : AreHomes (map (home_of setup) members)) (t : DefinedTask) (task : TaskGlobs) (r : IsRead members t task) where
  here : slice_get members task.place ≡ Some r.member
  here = ap (slice_get members) r.place ∙ r.stands

  own_is : (path : Path) → is_at (home_place (map (home_of setup) members) path) task.place ≡ is_home members r.member path
  own_is path = at_is setup members path task.place r.member are here

  asked_is : (path : Path) (own : Bool) → own ≡ is_home members r.member path → asked_by (own && not (ignored path)) task.inputs path (rest_where own task.folder path) ≡ is_asked ignored members r.member t.def.inputs path
  unfolding is_explicit
  asked_is path own e = rw (e, r.folder) (by t.def.inputs task.inputs r.inputs) where
    by : (texts : Option (List (List ℕ))) (inputs : Option InputList) → IsList texts inputs → asked_by (is_default ignored members r.member path) inputs path (rest_where (is_home members r.member path) r.member.folder path) ≡ is_asked ignored members r.member texts path
    by None None l = refl
    by None (Some list) l = absurd l
    by (Some texts) None l = absurd l
    by (Some texts) (Some list) l = rw (l.0, l.1) refl

  pub tie : (path : Path) → takes_by task (fact_by ignored (map (home_of setup) members) setup.globals.inputs path) path ≡ is_input ignored setup members r.member t.def path
  unfolding takes_by fact_by is_input
  tie path = rw (may_is setup members path, asked_is path (is_at (home_place (map (home_of setup) members) path) task.place) (own_is path), r.folder) refl

  not_asked : (path : Path) → wide_by task.inputs path ≡ false → is_home members r.member path ≡ false → is_asked ignored members r.member t.def.inputs path ≡ false
  unfolding is_explicit
  not_asked path none away = by t.def.inputs task.inputs r.inputs none where
    by : (texts : Option (List (List ℕ))) (inputs : Option InputList) → IsList texts inputs → wide_by inputs path ≡ false → is_asked ignored members r.member texts path ≡ false
    by None inputs l w = ap (λ b. b && not (ignored path)) away
    by (Some texts) None l w = absurd l
    by (Some texts) (Some list) l w =
        let reach : any_reaches false (entries_of texts) path None ≡ false = no_reach (entries_of texts) path (ap (λ es. any_wide es path) (sym l.0) ∙ w) in
        rw (away, reach) (none_left (has_default texts) (any_reaches true (entries_of texts) path None))

  -- its home is the task's owner, or it is global
  abbrev near : Path → Bool
  near path = is_at (home_place (map (home_of setup) members) path) task.place || is_global setup path

  -- a file that it takes is near or global, or a glob of the root matches it
  pub narrow : (path : Path) → is_input ignored setup members r.member t.def path ≡ true → (near path || wide_by task.inputs path) ≡ true
  unfolding is_input
  narrow path takes = by (is_home members r.member path) refl (is_global setup path) refl (wide_by task.inputs path) refl where
    by : (h : Bool) → is_home members r.member path ≡ h → (g : Bool) → is_global setup path ≡ g → (w : Bool) → wide_by task.inputs path ≡ w → ((is_at (home_place (map (home_of setup) members) path) task.place || g) || w) ≡ true
    by h e g f true k = or_true (is_at (home_place (map (home_of setup) members) path) task.place || g)
    by true e g f false k = rw (own_is path, e) refl
    by false e true f false k = rw (or_true (is_at (home_place (map (home_of setup) members) path) task.place)) refl
    by false e false f false k = absurd (false≢true (sym (rw (never_always members r.member path e, not_asked path k e, f) (and_none (may_count setup members path))) ∙ takes))

-- ---- the row of a task

module _ (ignored : Path → Bool) (setup : Setup) (members : List Package) (walk : List Path) (table : Table) (are : AreHomes (map (home_of setup) members)) (is : IsTable ignored (map (home_of setup) members) setup.globals.inputs walk table) (t : DefinedTask) where
  module _ (task : TaskGlobs) (r : IsRead members t task) where
    place_home : task.place < length (map (home_of setup) members)
    place_home = let l = slice_get_within members t.owner r.member r.stands in omega (arith, l, r.place, length-map members (home_of setup))

    at_same : (i : ℕ) (path : Path) → slice_get walk i ≡ Some path → takes_at task table.files.items walk i ≡ is_input ignored setup members r.member t.def path
    at_same i path at =
        let file : get_or table.files.items i unknown ≡ fact_by ignored (map (home_of setup) members) setup.globals.inputs path =
        ap (λ fs. get_or fs i unknown) is.files ∙ get_or_from_slice_get (map (fact_by ignored (map (home_of setup) members) setup.globals.inputs) walk) i (fact_by ignored (map (home_of setup) members) setup.globals.inputs path) unknown (get-map (fact_by ignored (map (home_of setup) members) setup.globals.inputs) walk i ∙ ap (option_map (fact_by ignored (map (home_of setup) members) setup.globals.inputs)) at) in
        let here : get_or walk i [] ≡ path = get_or_from_slice_get walk i path [] at in
        rw (file, here) (tie ignored setup members are t task r path)

    places_of : (test : FileFacts → Bool) → places test table.files.items ≡ places (λ path. test (fact_by ignored (map (home_of setup) members) setup.globals.inputs path)) walk
    places_of test = ap (places test) is.files ∙ places-map (fact_by ignored (map (home_of setup) members) setup.globals.inputs) test walk

    -- the task looks at files near its owner, global files and those that its globs of the root match
    abbrev looks : Path → Bool
    looks path = near ignored setup members are t task r path || wide_by task.inputs path

    looked_is : looked table task.place (places (wide_by task.inputs) walk) ≡ places looks walk
    unfolding fact_by
    looked_is =
        let close_walk : close table task.place ≡ places (near ignored setup members are t task r) walk = close_is ignored (map (home_of setup) members) setup.globals.inputs walk table is task.place place_home ∙ places_of (λ (f : FileFacts). is_at f.home task.place || f.global) in
        ap (λ (ks : List ℕ). merged (length ks + length (places (wide_by task.inputs) walk)) ks (places (wide_by task.inputs) walk)) close_walk
        ∙ merged_places (near ignored setup members are t task r) (wide_by task.inputs) walk _ (omega arith)

    pub row_taken : filter (takes_at task table.files.items walk) (looked table task.place (places (wide_by task.inputs) walk)) ≡ places (is_input ignored setup members r.member t.def) walk
    row_taken =
        ap (filter (takes_at task table.files.items walk)) looked_is
        ∙ filter_places looks (is_input ignored setup members r.member t.def) (takes_at task table.files.items walk) walk at_same (λ path h. narrow ignored setup members are t task r path h)

  pub row_is : (row : List ℕ) → IsRowOf members walk table t row → row ≡ input_row ignored setup members walk t
  row_is row r = r.taken ∙ row_taken r.task r.read ∙ sym (ap (row_of ignored setup members walk t.def) r.read.stands)

-- what is there has what follows from what it has
pub with_ok : {T E : Type 0} (P Q : T → Type 0) (r : Result T E) → ((x : T) → P x → Q x) → IfOk r P → IfOk r Q
with_ok P Q (Ok x) so p = so x p
with_ok P Q (Err e) so p = p
