-- What owners need of one another, step by step.
use Rattle.std.proofs.Common.{◌≡◌, ◌⊎◌, inl, inr, ℕ, ◌+◌, ◌<◌, true, false, List, [], ◌∷◌, ◌++◌, length, get_or, refl, sym, ap, ◌∙◌, subst, arith, append-nil}
use Rattle.std.specs.Prelude.{Option, Some, None, Ok, option_to_list}
use Rattle.std.specs.List.{slice_get, join_with_byte}
use Rattle.std.proofs.lemmas.Bool.{cases_eq}
use Rattle.std.proofs.lemmas.Option.{slice_get_within, slice_get-get_or}
use Rattle.serde_json.specs.Data.{Data}
use Rattle.lock_entries.specs.Lockfile.{entries_in}
use Rattle.npm_lock.specs.declared.start.Start.{Start}
use Rattle.npm_lock.specs.Externals.{IsExternals, IsLinked, Links}
use Rattle.rel_path.specs.Paths.{Path, path_eq}
use Rattle.rel_path.proofs.PathLaws.{path_same, path_self}
use Rattle.workspaces.specs.declared.member.Package.{Package}
use Rattle.workspaces.specs.Edges.{has_edge}
use Rattle.workspaces.specs.Lists.{Has, places}
use Rattle.workspaces.specs.Members.{edges_of}
use Rattle.workspaces.specs.Space.{Space, IsProper, owners, root_package}
use Rattle.workspaces.proofs.Owners.{root_slot}
use Rattle.task_inputs.specs.Rooted.{IsRooted, ArePicked}
use Rattle.collect.specs.Parts.{starts_of}
use Rattle.repository.specs.Reading.{Contents}
use Rattle.kept_packages.specs.Kept.{NamesTaskOf, LinksTo, has_root_task}
use Rattle.kept_packages.specs.Needs.{Gains, Leads, IsEdge, IsTarget, IsFirst, HasLink, IsOfRoot, GivesFile, NeedsOne, Needs}
use Rattle.kept_packages.specs.Steps.{IsNumber, IsWritten, IsWrittenIn, IsHome, IsHomeIn}
use Rattle.kept_packages.proofs.Lists.{some_same, not_both, from_held, to_held, get_has, has_one, any_has, has_any, filter_has, has_filter, place_has, has_place}
use Rattle.kept_packages.proofs.Gains.{gains_none, gains_list, gains_one, gains_as, gains_then, alone_leads, gains_alone, alone_gains}
use Rattle.kept_packages.proofs.Owners.{inner_slot, package_number, less_package, below_root}

-- ---- edges

pub edges_gain : (space : Space) (o : ℕ) (p : Package) (old new : List ℕ) → slice_get (owners space) o ≡ Some p → new ≡ old ++ edges_of space.packages p → Gains space (Leads space (IsEdge space) (o ∷ [])) old new
unfolding edges_of
edges_gain space o p old new at is = gains_alone space (IsEdge space) o p at old new (gains_list space (IsEdge space p) old (places (has_edge p) space.packages) new is
    (λ n has. let q = has_place (has_edge p) space.packages n has in record { member = q.0; stands = inner_slot space n q.0 q.1; is = (get_has space.packages n q.0 q.1, q.2) })
    (λ q e. let n = package_number space q e.0 in record { number = n.0; among = place_has (has_edge p) space.packages n.0 q n.1 e.1; stands = inner_slot space n.0 q n.1 }))

-- the targets, and what the root depends on
pub first_gain : (space : Space) (targets : List (List ℕ)) (o : ℕ) (old mid new : List ℕ) → o ≡ length space.packages → Gains space (IsTarget space targets) old mid → Gains space (Leads space (IsEdge space) (o ∷ [])) mid new → Gains space (IsFirst space targets) old new
first_gain space targets o old mid new is first second =
    let root = root_package space.root in
    let at : slice_get (owners space) o ≡ Some root = ap (slice_get (owners space)) is ∙ root_slot space in
    gains_then space (IsTarget space targets) (IsEdge space root) old mid new first (alone_gains space (IsEdge space) o root at mid new second)

-- ---- all packages

-- one of the first so many packages
pub record IsBefore (space : Space) (count : ℕ) (q : Package) : Type 0 where
  pub number : ℕ
  pub less : number < count
  pub stands : slice_get space.packages number ≡ Some q

pub before_none : (space : Space) (q : Package) → IsBefore space 0 q → ⊥
before_none space q b = omega (arith, b.less)

pub before_next : (space : Space) (count : ℕ) (start old new : List ℕ) → count < length space.packages → new ≡ old ++ count ∷ [] → Gains space (IsBefore space count) start old → Gains space (IsBefore space (count + 1)) start new
before_next space count start old new less put before = by space.packages refl less where
  last : (m : Package) → slice_get space.packages count ≡ Some m → Gains space (IsBefore space (count + 1)) start new
  last m at =
      gains_as space (λ q. IsBefore space count q ⊎ (m ≡ q)) (IsBefore space (count + 1)) start new
      (λ q e. elim e [
        | inl b ↦ record { number = b.number; less = omega (arith, b.less); stands = b.stands }
        | inr same ↦ record { number = count; less = omega arith; stands = at ∙ ap (λ (x : Package). Some x) same }
      ])
      (λ q b. parts q b)
      (gains_then space (IsBefore space count) (λ q. m ≡ q) start old new before
      (gains_one space (λ q. m ≡ q) old new count put (record { member = m; stands = inner_slot space count m at; is = refl }) (λ q same. inner_slot space count m at ∙ ap (λ (x : Package). Some x) same))) where
        parts : (q : Package) → IsBefore space (count + 1) q → IsBefore space count q ⊎ (m ≡ q)
        parts q b = elim (cases_eq b.number count) [
          | inl e ↦ inr (some_same m q (sym at ∙ ap (slice_get space.packages) (sym e) ∙ b.stands))
          | inr ne ↦ inl (record { number = b.number; less = omega (arith, b.less, ne); stands = b.stands })
        ]

  by : (ps : List Package) → ps ≡ space.packages → count < length space.packages → Gains space (IsBefore space (count + 1)) start new
  by [] e l = absurd (omega (arith, ap length e, l))
  by (d ∷ ps) e l = last (get_or space.packages count d) (slice_get-get_or space.packages count d l)

module _ (space : Space) (o : ℕ) (p : Package) (at : slice_get (owners space) o ≡ Some p) where
  -- a package is not the root
  pub inner_needs : IsProper space → o < length space.packages → (q : Package) → Leads space (IsOfRoot space) (o ∷ []) q → ⊥
  inner_needs proper less q l = below_root space proper o p (less_package space o p less at) (alone_leads space (IsOfRoot space) o p at q l).0

  pub all_before : (old new : List ℕ) → o ≡ length space.packages → Gains space (IsBefore space (length space.packages)) old new → Gains space (Leads space (IsOfRoot space) (o ∷ [])) old new
  all_before old new is gains =
      let root : root_package space.root ≡ p = some_same (root_package space.root) p (sym (root_slot space) ∙ ap (slice_get (owners space)) (sym is) ∙ at) in
      gains_alone space (IsOfRoot space) o p at old new
      (gains_as space (IsBefore space (length space.packages)) (IsOfRoot space p) old new
      (λ q b. (ap (λ (m : Package). m.folder) (sym root), get_has space.packages b.number q b.stands))
      (λ q e. let n = package_number space q e.1 in record { number = n.0; less = slice_get_within space.packages n.0 q n.1; stands = n.1 })
      gains)

-- ---- links

-- the package that a text writes, or none
written_one : (space : Space) (text : List ℕ) (n : ℕ) (old new : List ℕ) → IsNumber space.packages (IsWritten text) (Some n) → new ≡ old ++ n ∷ [] → Gains space (IsWrittenIn space (text ∷ [])) old new
written_one space text n old new is put =
    let p = is.sound n refl in
    gains_one space (IsWrittenIn space (text ∷ [])) old new n put
    (record { member = p.0; stands = inner_slot space n p.0 p.1; is = record { inner = get_has space.packages n p.0 p.1; text = text; among = inl refl; writes = p.2 } })
    (λ q w.
    let m = package_number space q w.inner in
    let same : n ≡ m.0 = some_same n m.0 (is.whole m.0 q m.1 (w.writes ∙ sym (has_one text w.text w.among))) in
    inner_slot space n q (ap (slice_get space.packages) same ∙ m.1))

written_none : (space : Space) (text : List ℕ) → IsNumber space.packages (IsWritten text) None → (q : Package) → IsWrittenIn space (text ∷ []) q → ⊥
written_none space text is q w =
    let m = package_number space q w.inner in
    let none : None ≡ Some m.0 = is.whole m.0 q m.1 (w.writes ∙ sym (has_one text w.text w.among)) in
    cc

pub written_gain : (space : Space) (text : List ℕ) (found : Option ℕ) (old new : List ℕ) → IsNumber space.packages (IsWritten text) found → new ≡ old ++ option_to_list found → Gains space (IsWrittenIn space (text ∷ [])) old new
written_gain space text None old new is put = rw (put, append-nil) (gains_none space (IsWrittenIn space (text ∷ [])) old (written_none space text is))
written_gain space text (Some n) old new is put = written_one space text n old new is put

module _ (contents : Contents) (o : ℕ) where
  pub links_none : contents.lock ≡ None → (q : Package) → Leads contents.space (HasLink contents) (o ∷ []) q → ⊥
  links_none none q l = subst (λ lock. LinksTo contents lock l.user q) none l.needs.1

  pub links_gain : (p : Package) (lock : Data) (starts : List Start) (folders : List (List ℕ)) (old new : List ℕ) → slice_get (owners contents.space) o ≡ Some p → contents.lock ≡ Some lock → starts ≡ starts_of contents.space p → Links lock starts (Ok folders)
      → Gains contents.space (IsWrittenIn contents.space folders) old new → Gains contents.space (Leads contents.space (HasLink contents) (o ∷ [])) old new
  links_gain p lock starts folders old new at is from links gains =
      gains_alone contents.space (HasLink contents) o p at old new (gains_as contents.space (IsWrittenIn contents.space folders) (HasLink contents p) old new
      (λ q w. (w.inner, subst (λ l. LinksTo contents l p q) (sym is) (links.0, subst (λ s. IsExternals (entries_in lock) s links.0) from links.1, subst (λ t. IsLinked (entries_in lock) links.0 t) (sym w.writes) ((links.3 w.text).0 (to_held folders w.text w.among)))))
      (λ q l. back q l.0 (subst (λ k. LinksTo contents k p q) is l.1))
      gains) where
        back : (q : Package) → Has contents.space.packages q → LinksTo contents (Some lock) p q → IsWrittenIn contents.space folders q
        back q inner l =
            let within = l.1.1 links.0 (subst (λ s. IsExternals (entries_in lock) s links.0) from links.1).0 in
            let linked = l.2 in
            record {
              inner = inner;
              text = join_with_byte 47 q.folder;
              among = from_held folders (join_with_byte 47 q.folder) ((links.3 (join_with_byte 47 q.folder)).1 (record { entry = linked.entry; among = linked.among; is_member = within linked.entry.location linked.is_member; leads = linked.leads }));
              writes = refl;
            }

-- ---- files

home_one : (space : Space) (path : Path) (n : ℕ) (old new : List ℕ) → IsNumber space.packages (IsHome space path) (Some n) → new ≡ old ++ n ∷ [] → Gains space (IsHomeIn space (path ∷ [])) old new
home_one space path n old new is put =
    let p = is.sound n refl in
    gains_one space (IsHomeIn space (path ∷ [])) old new n put
    (record { member = p.0; stands = inner_slot space n p.0 p.1; is = record { inner = get_has space.packages n p.0 p.1; path = path; among = inl refl; home = p.2 } })
    (λ q h.
    let m = package_number space q h.inner in
    let same : n ≡ m.0 = some_same n m.0 (is.whole m.0 q m.1 (subst (λ x. IsHome space x q) (sym (has_one path h.path h.among)) h.home)) in
    inner_slot space n q (ap (slice_get space.packages) same ∙ m.1))

home_none : (space : Space) (path : Path) → IsNumber space.packages (IsHome space path) None → (q : Package) → IsHomeIn space (path ∷ []) q → ⊥
home_none space path is q h =
    let m = package_number space q h.inner in
    let none : None ≡ Some m.0 = is.whole m.0 q m.1 (subst (λ x. IsHome space x q) (sym (has_one path h.path h.among)) h.home) in
    cc

pub home_gain : (space : Space) (path : Path) (found : Option ℕ) (old new : List ℕ) → IsNumber space.packages (IsHome space path) found → new ≡ old ++ option_to_list found → Gains space (IsHomeIn space (path ∷ [])) old new
home_gain space path None old new is put = rw (put, append-nil) (gains_none space (IsHomeIn space (path ∷ [])) old (home_none space path is))
home_gain space path (Some n) old new is put = home_one space path n old new is put

pub givers_gain : (contents : Contents) (users : List ℕ) (paths : List Path) (old new : List ℕ) → ArePicked (IsRooted contents.setup (owners contents.space) users) contents.walk paths
    → Gains contents.space (IsHomeIn contents.space paths) old new → Gains contents.space (Leads contents.space (GivesFile contents) users) old new
givers_gain contents users paths old new picked gains =
    gains_as contents.space (IsHomeIn contents.space paths) (Leads contents.space (GivesFile contents) users) old new (λ q h. forth q h) (λ q l. back q l) gains where
      forth : (q : Package) → IsHomeIn contents.space paths q → Leads contents.space (GivesFile contents) users q
      forth q h =
          let f = filter_has picked.test contents.walk h.path (subst (λ ps. Has ps h.path) picked.are h.among) in
          let r = picked.sound h.path f.1 in
          record {
            user = r.member;
            among = record { number = r.place; among = r.is_kept; stands = r.stands };
            needs = (h.inner, record { task = r.task; listed = r.named; def = r.def; defined = r.defined; path = h.path; walked = has_any (λ other. path_eq other h.path) contents.walk h.path f.0 (path_self h.path); far = r.far; home = h.home });
          }

      back : (q : Package) → Leads contents.space (GivesFile contents) users q → IsHomeIn contents.space paths q
      back q l =
          let t = l.needs.1 in
          let w = any_has (λ other. path_eq other t.path) contents.walk t.walked in
          let walked : Has contents.walk t.path = subst (λ path. Has contents.walk path) (path_same w.0 t.path w.2) w.1 in
          let takes : picked.test t.path ≡ true = picked.whole t.path (record { place = l.among.number; is_kept = l.among.among; member = l.user; stands = l.among.stands; task = t.task; named = t.listed; def = t.def; defined = t.defined; far = t.far }) in
          record { inner = l.needs.0; path = t.path; among = subst (λ ps. Has ps t.path) (sym picked.are) (has_filter picked.test contents.walk t.path walked takes); home = t.home }

-- ---- all needs

module _ (contents : Contents) where
  pub needs_one : (o : ℕ) (p : Package) (a b c d e : List ℕ) → slice_get (owners contents.space) o ≡ Some p
      → Gains contents.space (Leads contents.space (IsEdge contents.space) (o ∷ [])) a b → Gains contents.space (Leads contents.space (NamesTaskOf contents) (o ∷ [])) b c
      → Gains contents.space (Leads contents.space (HasLink contents) (o ∷ [])) c d → Gains contents.space (Leads contents.space (IsOfRoot contents.space) (o ∷ [])) d e
      → Gains contents.space (Leads contents.space (NeedsOne contents) (o ∷ [])) a e
  needs_one o p a b c d e at edges tasks links all =
      let space = contents.space in
      gains_alone space (NeedsOne contents) o p at a e
      (gains_then space (IsEdge space p) (λ q. NamesTaskOf contents p q ⊎ (HasLink contents p q ⊎ IsOfRoot space p q)) a b e (alone_gains space (IsEdge space) o p at a b edges)
      (gains_then space (NamesTaskOf contents p) (λ q. HasLink contents p q ⊎ IsOfRoot space p q) b c e (alone_gains space (NamesTaskOf contents) o p at b c tasks)
      (gains_then space (HasLink contents p) (IsOfRoot space p) c d e (alone_gains space (HasLink contents) o p at c d links)
      (alone_gains space (IsOfRoot space) o p at d e all))))

  pub needs_with : (users : List ℕ) (a b c : List ℕ) → has_root_task contents ≡ true → Gains contents.space (Leads contents.space (NeedsOne contents) users) a b → Gains contents.space (Leads contents.space (GivesFile contents) users) b c
      → Gains contents.space (Leads contents.space (Needs contents) users) a c
  needs_with users a b c files one givers =
      let space = contents.space in
      gains_as space (λ q. Leads space (NeedsOne contents) users q ⊎ Leads space (GivesFile contents) users q) (Leads space (Needs contents) users) a c
      (λ q e. elim e [
        | inl l ↦ record { user = l.user; among = l.among; needs = inl l.needs }
        | inr l ↦ record { user = l.user; among = l.among; needs = inr (files, l.needs) }
      ])
      (λ q l. elim l.needs [
        | inl n ↦ inl (record { user = l.user; among = l.among; needs = n })
        | inr n ↦ inr (record { user = l.user; among = l.among; needs = n.1 })
      ])
      (gains_then space (Leads space (NeedsOne contents) users) (Leads space (GivesFile contents) users) a b c one givers)

  pub needs_without : (users : List ℕ) (a b : List ℕ) → has_root_task contents ≡ false → Gains contents.space (Leads contents.space (NeedsOne contents) users) a b → Gains contents.space (Leads contents.space (Needs contents) users) a b
  needs_without users a b files one =
      let space = contents.space in
      gains_as space (Leads space (NeedsOne contents) users) (Leads space (Needs contents) users) a b
      (λ q l. record { user = l.user; among = l.among; needs = inl l.needs })
      (λ q l. elim l.needs [
        | inl n ↦ record { user = l.user; among = l.among; needs = n }
        | inr n ↦ absurd (not_both (has_root_task contents) files n.0)
      ])
      one
