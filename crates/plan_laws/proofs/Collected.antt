-- One listing of wanted tasks, or one refusal.
use Rattle.std.proofs.Common.{◌≡◌, ◌<◌, ◌≤◌, ℕ, true, false, ltb, List, filter, refl, sym, ap, ◌∙◌, subst, arith}
use Rattle.std.specs.Prelude.{Option, Some, None, Result, Ok, Err}
use Rattle.std.specs.List.{AllByRecursion, slice_get}
use Rattle.std.proofs.lemmas.Bool.Decides.{Decides-ltb}
use Rattle.serde_json.specs.Data.{Data}
use Rattle.rel_path.specs.Paths.{Path}
use Rattle.rel_path.specs.Files.{FileMap}
use Rattle.env_select.specs.Choice.{is_hashed, IsChosen, ChosenOnce}
use Rattle.npm_lock.specs.declared.error.ExtErr.TheVariants.{Missing as missing_name}
use Rattle.npm_lock.specs.Externals.{Externals}
use Rattle.workspaces.specs.declared.member.Package.{Package}
use Rattle.workspaces.specs.Space.{Space, owner_named}
use Rattle.task_definitions.specs.Setup.{Setup, task_def}
use Rattle.listing.specs.declared.part.Part.{Part}
use Rattle.listing.specs.declared.part.Listing.{Listing}
use Rattle.collect.specs.declared.wanted.Wanted.{Wanted}
use Rattle.collect.specs.declared.error.CollectErr.{CollectErr}
use Rattle.collect.specs.declared.error.CollectErr.TheVariants.{Missing, TooLarge, TooMuch, Failed, OutOfMemory}
use Rattle.collect.specs.Parts.{IsPart, Uses, starts_of, scripts_of, out_set_of, takes_input}
use Rattle.collect.specs.Listings.{IsListing}
use Rattle.collect.specs.Refusals.{FindsAll, IsMissingOf, IsFirstMissing, Collects}
use Rattle.plan_laws.proofs.Places.{from_some, all_at, all_before}
use Rattle.plan_laws.proofs.Pairing.{one_pairing}
use Rattle.plan_laws.specs.Installed.{one_uses, found_or_missing, one_missing}

-- ---- installed packages

module _ (space : Space) where
  one_installed : (lock : Option Data) (member : Package) (pairs more : List (List ℕ × List ℕ)) → Uses space lock member pairs → Uses space lock member more → pairs ≡ more
  one_installed None member pairs more a b = a ∙ sym b
  one_installed (Some lockfile) member pairs more a b = one_uses lockfile (starts_of space member) pairs more a b

  found_not_missing : (lock : Option Data) (w : Wanted) (member : Package) (from name : List ℕ) → FindsAll space lock w → owner_named space w.id.«package» ≡ Some member → IsMissingOf space lock member from name → ⊥
  found_not_missing lock w member from name a stands b =
      let same : a.member ≡ member = from_some a.member member (sym a.stands ∙ stands) in
      found_or_missing b.lockfile (starts_of space member) a.pairs from name (subst (λ l. Uses space l member a.pairs) b.there (subst (λ m. Uses space lock m a.pairs) same a.uses)) b.missing

module _ (space : Space) (lock : Option Data) (wanted : List Wanted) where
  all_found : (from name : List ℕ) → AllByRecursion (FindsAll space lock) wanted → IsFirstMissing space lock wanted from name → ⊥
  all_found from name all b = found_not_missing space lock b.wanted b.member from name (all_at (FindsAll space lock) wanted b.place b.wanted all b.stands) b.is_its b.misses

  not_earlier : (from name from2 name2 : List ℕ) (a : IsFirstMissing space lock wanted from name) (b : IsFirstMissing space lock wanted from2 name2) → a.place < b.place → ⊥
  not_earlier from name from2 name2 a b less = found_not_missing space lock a.wanted a.member from name (all_before (FindsAll space lock) wanted b.place a.place a.wanted b.found less a.stands) a.is_its a.misses

  one_place : (from name from2 name2 : List ℕ) (a : IsFirstMissing space lock wanted from name) (b : IsFirstMissing space lock wanted from2 name2) → a.place ≡ b.place
  one_place from name from2 name2 a b =
      elim (ltb a.place b.place) as (λ t. ltb a.place b.place ≡ t → a.place ≡ b.place) [
        | true ↦ λ t. absurd (not_earlier from name from2 name2 a b ((Decides-ltb a.place b.place).0 t))
        | false ↦ λ t. elim (ltb b.place a.place) as (λ u. ltb b.place a.place ≡ u → a.place ≡ b.place) [
          | true ↦ λ u. absurd (not_earlier from2 name2 from name b a ((Decides-ltb b.place a.place).0 u))
          | false ↦ λ u.
              let low : a.place < b.place → ⊥ = λ h. let k = (Decides-ltb a.place b.place).1 h in cc in
              let high : b.place < a.place → ⊥ = λ h. let k = (Decides-ltb b.place a.place).1 h in cc in
              omega arith
        ] refl
      ] refl

  one_first_missing : (from name from2 name2 : List ℕ) → IsFirstMissing space lock wanted from name → IsFirstMissing space lock wanted from2 name2 → (from ≡ from2) × (name ≡ name2)
  one_first_missing from name from2 name2 a b =
      let w : a.wanted ≡ b.wanted = from_some a.wanted b.wanted (sym a.stands ∙ ap (slice_get wanted) (one_place from name from2 name2 a b) ∙ b.stands) in
      let m : a.member ≡ b.member = from_some a.member b.member (sym a.is_its ∙ (λ j. owner_named space (w j).id.«package») ∙ b.is_its) in
      let misses : IsMissingOf space lock b.member from name = subst (λ m. IsMissingOf space lock m from name) m a.misses in
      let l : misses.lockfile ≡ b.misses.lockfile = from_some misses.lockfile b.misses.lockfile (sym misses.there ∙ b.misses.there) in
      one_missing b.misses.lockfile (starts_of space b.member) from name from2 name2 (subst (λ d. Externals d (starts_of space b.member) (Err (missing_name from name))) l misses.missing) b.misses.missing

-- an answer that files give, and no want of memory or failed device
abbrev pub Speaks : Result Listing CollectErr → Type 0
Speaks (Ok listing) = Unit {0}
Speaks (Err (Missing from name)) = Unit {0}
Speaks (Err (TooLarge path)) = Unit {0}
Speaks (Err (TooMuch bytes)) = Unit {0}
Speaks (Err Failed) = ⊥
Speaks (Err OutOfMemory) = ⊥

-- ---- parts

module _ (choice : ChosenOnce) (setup : Setup) (space : Space) (lock : Option Data) (files : FileMap) (walk : List Path) (env : List (List ℕ × List ℕ)) where
  one_part : (w : Wanted) (one other : Part) → IsPart setup space lock files walk env w one → IsPart setup space lock files walk env w other → one ≡ other
  one_part w one other a b =
      let m : a.member ≡ b.member = from_some a.member b.member (sym a.stands ∙ b.stands) in
      let d : a.def ≡ b.def = from_some a.def b.def (sym a.defined ∙ (λ j. task_def setup (m j).name w.id.task) ∙ b.defined) in
      let pkg : one.«package» ≡ other.«package» = a.«package» ∙ sym b.«package» in
      let folder : one.folder ≡ other.folder = a.folder ∙ (λ j. (m j).folder) ∙ sym b.folder in
      let task : one.task ≡ other.task = a.task ∙ sym b.task in
      let scripts : one.scripts ≡ other.scripts = a.scripts ∙ (λ j. scripts_of (m j).manifest.scripts w.id.task) ∙ sym b.scripts in
      let args : one.args ≡ other.args = a.args ∙ sym b.args in
      let outs : one.outs ≡ other.outs = a.outs ∙ (λ j. out_set_of setup space (m j) w.id.task (d j)) ∙ sym b.outs in
      let pairs : one.env ≡ other.env = choice (is_hashed b.def.env setup.globals.env) env one.env other.env (subst (λ def. IsChosen (is_hashed def.env setup.globals.env) env one.env) d a.env_pairs) b.env_pairs in
      let inputs : one.inputs ≡ other.inputs = a.inputs ∙ (λ j. filter (takes_input setup space files walk (m j) (d j)) walk) ∙ sym b.inputs in
      let externals : one.externals ≡ other.externals = one_installed space lock b.member one.externals other.externals (subst (λ p. Uses space lock p one.externals) m a.externals) b.externals in
      let deps : one.deps ≡ other.deps = a.deps ∙ sym b.deps in
      λ j. record { «package» = pkg j; folder = folder j; task = task j; scripts = scripts j; args = args j; outs = outs j; env = pairs j; inputs = inputs j; externals = externals j; deps = deps j }

  one_listing : (wanted : List Wanted) (one other : Listing) → IsListing setup space lock files walk env wanted one → IsListing setup space lock files walk env wanted other → one ≡ other
  one_listing wanted one other a b =
      let parts : one.parts ≡ other.parts = one_pairing (IsPart setup space lock files walk env) one_part wanted one.parts other.parts a.parts b.parts in
      let held : one.files ≡ other.files = a.files_are ∙ sym b.files_are in
      λ j. record { parts = parts j; files = held j }

  -- ---- the answers, two by two

  abbrev Answers : List Wanted → Result Listing CollectErr → Type 0
  Answers wanted answer = Collects setup space lock files walk env wanted answer

  none_some : {X : Type 0} (o : Option X) (x : X) → o ≡ None → o ≡ Some x → ⊥
  none_some o x none some = cc

  too_much : (total bytes limit : ℕ) → total ≤ limit → total ≡ bytes → limit < bytes → ⊥
  too_much total bytes limit low is high = omega arith

  pub one_collected : (wanted : List Wanted) (one other : Result Listing CollectErr) → Speaks one → Speaks other → Answers wanted one → Answers wanted other → one ≡ other
  one_collected wanted (Ok listing) (Ok also) s t a b = ap Ok (one_listing wanted listing also a.0 b.0)
  one_collected wanted (Ok listing) (Err (Missing from name)) s t a b = absurd (all_found space lock wanted from name a.1.0.found b)
  one_collected wanted (Ok listing) (Err (TooLarge path)) s t a b = absurd (none_some _ path a.1.0.small b.1)
  one_collected wanted (Ok listing) (Err (TooMuch bytes)) s t a b = absurd (too_much _ bytes _ a.1.1 b.1.0 b.1.1)
  one_collected wanted (Err (Missing from name)) (Ok listing) s t a b = absurd (all_found space lock wanted from name b.1.0.found a)
  one_collected wanted (Err (Missing from name)) (Err (Missing from2 name2)) s t a b = let e = one_first_missing space lock wanted from name from2 name2 a b in λ j. Err (Missing (e.0 j) (e.1 j))
  one_collected wanted (Err (Missing from name)) (Err (TooLarge path)) s t a b = absurd (all_found space lock wanted from name b.0 a)
  one_collected wanted (Err (Missing from name)) (Err (TooMuch bytes)) s t a b = absurd (all_found space lock wanted from name b.0.found a)
  one_collected wanted (Err (TooLarge path)) (Ok listing) s t a b = absurd (none_some _ path b.1.0.small a.1)
  one_collected wanted (Err (TooLarge path)) (Err (Missing from name)) s t a b = absurd (all_found space lock wanted from name a.0 b)
  one_collected wanted (Err (TooLarge path)) (Err (TooLarge path2)) s t a b = let e = from_some path path2 (sym a.1 ∙ b.1) in λ j. Err (TooLarge (e j))
  one_collected wanted (Err (TooLarge path)) (Err (TooMuch bytes)) s t a b = absurd (none_some _ path b.0.small a.1)
  one_collected wanted (Err (TooMuch bytes)) (Ok listing) s t a b = absurd (too_much _ bytes _ b.1.1 a.1.0 a.1.1)
  one_collected wanted (Err (TooMuch bytes)) (Err (Missing from name)) s t a b = absurd (all_found space lock wanted from name a.0.found b)
  one_collected wanted (Err (TooMuch bytes)) (Err (TooLarge path)) s t a b = absurd (none_some _ path a.0.small b.1)
  one_collected wanted (Err (TooMuch bytes)) (Err (TooMuch bytes2)) s t a b = let e : bytes ≡ bytes2 = sym a.1.0 ∙ b.1.0 in λ j. Err (TooMuch (e j))
  one_collected wanted (Err Failed) other s t a b = absurd s
  one_collected wanted (Err OutOfMemory) other s t a b = absurd s
  one_collected wanted one (Err Failed) s t a b = absurd t
  one_collected wanted one (Err OutOfMemory) s t a b = absurd t
