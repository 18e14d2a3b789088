-- All that the law of runs asks for holds of the example.
use Rattle.std.proofs.Common.{◌≡◌, ◌≢◌, ℕ, zero, suc, ◌<◌, List, [], ◌∷◌, true, false, refl, sym, ap, ◌∙◌, subst, arith}
use Rattle.std.specs.Prelude.{Option, Some, None, IsSome, length, slice_get, codes, ⊤}
use Rattle.std.specs.List.{AllByRecursion}
use Rattle.std.proofs.lemmas.Bool.{false≢true, true≢false}
use Rattle.rel_path.specs.Paths.{Path, path_eq, name_eq}
use Rattle.rel_path.specs.Files.{file_at}
use Rattle.globs.specs.Outputs.{takes, shares}
use Rattle.codes.specs.Codes.{IsShort, IsList, IsWord, AreBoth}
use Rattle.listing.specs.KeyText.{Fits, PartFits, PathFits}
use Rattle.cache_api.specs.Artifacts.{IsTold}
use Rattle.run_core.specs.declared.states.Mode.TheVariants.{Never}
use Rattle.spawn_dev.specs.Books.{effect_of}
use Rattle.spawn_dev.specs.BookLaws.{behaves}
use Rattle.run_laws.specs.declared.outcome.Outcome.{Outcome}
use Rattle.run_laws.specs.declared.outcome.Outcome.TheVariants.{Skipped, Passed, Done}
use Rattle.run_laws.specs.Ancestors.{part_at, has_script}
use Rattle.run_laws.specs.Closures.{names}
use Rattle.run_laws.specs.Valid.{IsValid, IsOrdered, IsOrderedPart}
use Rattle.run_laws.specs.Plans.{AreApart, log_path}
use Rattle.run_laws.specs.Keys.{artifact_of, IsStorable}
use Rattle.run_laws.specs.Runs.{IsReady}
use Rattle.example_run.specs.Example.{ui, web, folder_of, manifest_of, source_of, product_of, outs_of, build_of, listing, rules, setting, outcomes}
use Rattle.example_run.proofs.Outputs.{web_apart, ui_apart, none_shared, each_input, no_input_ui, no_input_web}
use Rattle.example_run.proofs.Copies.{copies}

-- ---- places

-- what holds of both places holds of each that has a script
each : (P : ℕ → Type 0) → P 0 → P 1 → (j : ℕ) → has_script (part_at listing j) ≡ true → P j
each P a b zero h = a
each P a b (suc zero) h = b
each P a b (suc (suc j)) h = absurd (false≢true h)

-- the same of two different places
each_two : (P : ℕ → ℕ → Type 0) → P 0 1 → P 1 0 → (j k : ℕ) → j ≢ k → has_script (part_at listing j) ≡ true
    → has_script (part_at listing k) ≡ true → P j k
each_two P a b zero zero ne h i = absurd (ne refl)
each_two P a b zero (suc zero) ne h i = a
each_two P a b (suc zero) zero ne h i = b
each_two P a b (suc zero) (suc zero) ne h i = absurd (ne refl)
each_two P a b zero (suc (suc k)) ne h i = absurd (false≢true i)
each_two P a b (suc zero) (suc (suc k)) ne h i = absurd (false≢true i)
each_two P a b (suc (suc j)) k ne h i = absurd (false≢true h)

-- ---- the listing

ordered_ui : IsOrderedPart (build_of ui [])
ordered_ui = record { home = refl; inputs = ((refl, tt), (tt, tt)); deps = tt }

ordered_web : IsOrderedPart (build_of web (0 ∷ []))
ordered_web = record { home = refl; inputs = ((refl, tt), (tt, tt)); deps = (tt, tt) }

lower : (i : ℕ) → AllByRecursion (λ d. d < i) (part_at listing i).deps
lower zero = tt
lower (suc zero) = (omega arith, tt)
lower (suc (suc i)) = tt

ordered : IsOrdered listing
ordered = record {
  ascend = ((refl, (refl, (refl, tt))), ((refl, (refl, tt)), ((refl, tt), (tt, tt))));
  named = (refl, (refl, (refl, (refl, tt))));
  present = each_input (λ path. IsSome (file_at listing.files path)) refl refl refl refl;
  lower = lower;
  parts = (ordered_ui, (ordered_web, tt));
}

-- each text and each list is short
none_fits : {A : Type 0} (F : A → Type 0) → IsList F []
none_fits F = record { short = omega arith; each = tt }

part_fits : (name : List ℕ) (deps : List ℕ) → IsShort name → PathFits (folder_of name)
    → PathFits (manifest_of name) → PathFits (source_of name) → IsList IsWord deps → PartFits (build_of name deps)
part_fits name deps short folder manifest source words = record {
  «package» = short;
  folder = folder;
  task = omega arith;
  scripts = record { short = omega arith; each = (omega arith, tt) };
  args = none_fits IsShort;
  outs = record { mine = record { short = omega arith; each = (omega arith, tt) }; others = none_fits (IsList IsShort) };
  env = none_fits (AreBoth IsShort IsShort);
  inputs = record { short = omega arith; each = (manifest, (source, tt)) };
  externals = none_fits (AreBoth IsShort IsShort);
  deps = words;
}

manifest_ui : PathFits (manifest_of ui)
manifest_ui = record { text = omega arith; names = refl }

source_ui : PathFits (source_of ui)
source_ui = record { text = omega arith; names = refl }

manifest_web : PathFits (manifest_of web)
manifest_web = record { text = omega arith; names = refl }

source_web : PathFits (source_of web)
source_web = record { text = omega arith; names = refl }

fits_ui : PartFits (build_of ui [])
fits_ui = part_fits ui [] (omega arith) (record { text = omega arith; names = refl }) manifest_ui source_ui (none_fits IsWord)

fits_web : PartFits (build_of web (0 ∷ []))
fits_web =
    part_fits web (0 ∷ []) (omega arith) (record { text = omega arith; names = refl }) manifest_web source_web
    (record { short = omega arith; each = (omega arith, tt) })

fits : Fits listing
fits = record {
  files = record {
    short = omega arith;
    each = (
      record { first = manifest_ui; second = omega arith },
      (
        record { first = source_ui; second = omega arith },
        (record { first = manifest_web; second = omega arith }, (record { first = source_web; second = omega arith }, tt)),
      ),
    );
  };
  parts = record { short = omega arith; each = (fits_ui, (fits_web, tt)) };
}

valid : IsValid listing
valid = record { ordered = ordered; fits = fits }

-- ---- tasks apart

-- the names differ, and so do the log files
ids : (j k : ℕ) → j < length listing.parts → k < length listing.parts → (part_at listing j).«package» ≡ (part_at listing k).«package»
    → (part_at listing j).task ≡ (part_at listing k).task → j ≡ k
ids zero zero i n e f = refl
ids zero (suc zero) i n e f = absurd (true≢false (ap (name_eq ui) e))
ids (suc zero) zero i n e f = absurd (true≢false (ap (name_eq web) e))
ids (suc zero) (suc zero) i n e f = refl
ids zero (suc (suc k)) i n e f = absurd (omega (arith, n))
ids (suc zero) (suc (suc k)) i n e f = absurd (omega (arith, n))
ids (suc (suc j)) k i n e f = absurd (omega (arith, i))

-- no task owns its own log file or that of the other
no_log : (j k : ℕ) → has_script (part_at listing j) ≡ true → has_script (part_at listing k) ≡ true
    → takes (part_at listing j).outs (log_path (part_at listing k)) ≡ false
unfolding takes
no_log j k = λ h i.
    each (λ x. takes (part_at listing x).outs (log_path (part_at listing k)) ≡ false)
    (each (λ y. takes (outs_of ui) (log_path (part_at listing y)) ≡ false) refl refl k i)
    (each (λ y. takes (outs_of web) (log_path (part_at listing y)) ≡ false) refl refl k i) j h

-- no task shares a path
unshared : (k : ℕ) → has_script (part_at listing k) ≡ true → (path : Path) → shares (part_at listing k).outs path ≡ false
unshared = each (λ k. (path : Path) → shares (part_at listing k).outs path ≡ false) (none_shared ui) (none_shared web)

logs_differ : (j k : ℕ) → j ≢ k → has_script (part_at listing j) ≡ true → has_script (part_at listing k) ≡ true
    → log_path (part_at listing j) ≢ log_path (part_at listing k)
logs_differ =
    each_two (λ j k. log_path (part_at listing j) ≢ log_path (part_at listing k))
    (λ e. true≢false (ap (path_eq (log_path (part_at listing 0))) e))
    (λ e. true≢false (ap (path_eq (log_path (part_at listing 1))) e))

apart : AreApart listing
apart = record {
  ids = ids;
  outs = each_two (λ j k. (path : Path) → takes (part_at listing j).outs path ≡ true → takes (part_at listing k).outs path ≡ false) web_apart ui_apart;
  shared = λ j k ne h i path owned. unshared k i path;
  inputs = each (λ j. (path : Path) → takes (part_at listing j).outs path ≡ true → names listing.parts path ≡ false) no_input_ui no_input_web;
  logs = logs_differ;
  log_inputs = each (λ j. names listing.parts (log_path (part_at listing j)) ≡ false) refl refl;
  log_outs = no_log;
  log_shared = λ j k h i. unshared j h (log_path (part_at listing k));
}

-- ---- what the commands leave

told_ui : IsTold (codes "built", (product_of ui, codes "one") ∷ [])
told_ui = record {
  log = omega arith;
  files = record { short = omega arith; each = (record { first = record { text = omega arith; names = refl }; second = omega arith }, tt) };
}

told_web : IsTold ([], (product_of web, codes "twoone") ∷ [])
told_web = record {
  log = omega arith;
  files = record { short = omega arith; each = (record { first = record { text = omega arith; names = refl }; second = omega arith }, tt) };
}

-- what is told of an outcome that is an effect
abbrev IsToldOutcome : Outcome → Type 0
IsToldOutcome Skipped = ⊤
IsToldOutcome Passed = ⊤
IsToldOutcome (Done effect) = IsTold (artifact_of effect)

abbrev IsToldAt : Option Outcome → Type 0
IsToldAt None = ⊤
IsToldAt (Some outcome) = IsToldOutcome outcome

each_told : (i : ℕ) → IsToldAt (slice_get outcomes i)
each_told zero = told_ui
each_told (suc zero) = told_web
each_told (suc (suc i)) = tt

storable : IsStorable Never (effect_of rules) listing
storable i effect at = subst IsToldAt (ap (λ os. slice_get os i) (sym copies) ∙ at) (each_told i)

pub ready : IsReady setting
ready = record {
  valid = valid;
  apart = apart;
  behaved = behaves rules;
  storable = storable;
  good = tt;
  inputs = λ path named. refl;
}
