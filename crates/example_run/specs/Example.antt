-- Two packages of which the second one uses the first, and commands that copy what they see.
use Rattle.std.specs.Prelude.{ℕ, false, List, [], ◌∷◌, codes}
use Rattle.rel_path.specs.Paths.{Path}
use Rattle.rel_path.specs.Files.{file_at}
use Rattle.globs.specs.declared.out_set.OutSet.{OutSet}
use Rattle.listing.specs.declared.part.Part.{Part}
use Rattle.listing.specs.declared.part.Listing.{Listing}
use Rattle.run_core.specs.declared.states.Mode.TheVariants.{Never}
use Rattle.spawn_dev.specs.declared.book.Piece.TheVariants.{Lit, File}
use Rattle.spawn_dev.specs.declared.book.Rule.{Rule}
use Rattle.spawn_dev.specs.Books.{effect_of}
use Rattle.run_laws.specs.declared.outcome.Outcome.{Outcome}
use Rattle.run_laws.specs.declared.outcome.Outcome.TheVariants.{Done}
use Rattle.run_laws.specs.Runs.{Setting}

-- ---- paths

-- the folder of a package
abbrev pub folder_of : List ℕ → Path
folder_of name = codes "packages" ∷ name ∷ []

-- a file directly in it
abbrev pub manifest_of : List ℕ → Path
manifest_of name = codes "packages" ∷ name ∷ codes "package.json" ∷ []

-- its source
abbrev pub source_of : List ℕ → Path
source_of name = codes "packages" ∷ name ∷ codes "src" ∷ codes "a.js" ∷ []

-- what is built of it
abbrev pub product_of : List ℕ → Path
product_of name = codes "packages" ∷ name ∷ codes "dist" ∷ codes "a.js" ∷ []

-- ---- the listing

-- what a task declares
abbrev pub outs_of : List ℕ → OutSet
outs_of name = record { folder = folder_of name; mine = codes "dist/**" ∷ []; others = [] }

-- the task `build` of a package, with the places of the tasks that it depends on
abbrev pub build_of : List ℕ → List ℕ → Part
build_of name deps = record {
  «package» = name;
  folder = folder_of name;
  task = codes "build";
  scripts = codes "copy" ∷ [];
  args = [];
  outs = outs_of name;
  env = [];
  inputs = manifest_of name ∷ source_of name ∷ [];
  externals = [];
  deps = deps;
}

abbrev pub ui : List ℕ
ui = codes "ui"

abbrev pub web : List ℕ
web = codes "web"

-- `web` stands behind `ui` and depends on it
abbrev pub listing : Listing
listing = record {
  files =
      (manifest_of ui, codes "{}") ∷ (source_of ui, codes "one") ∷ (manifest_of web, codes "{}")
      ∷ (source_of web, codes "two") ∷ [];
  parts = build_of ui [] ∷ build_of web (0 ∷ []) ∷ [];
}

-- ---- the commands

-- `ui` prints a word and copies its source
abbrev pub rule_of_ui : Rule
rule_of_ui = record {
  «package» = ui;
  task = codes "build";
  status = 0;
  log = Lit (codes "built") ∷ [];
  files = (product_of ui, File (source_of ui) ∷ []) ∷ [];
}

-- `web` joins its source and what `ui` has built
abbrev pub rule_of_web : Rule
rule_of_web = record {
  «package» = web;
  task = codes "build";
  status = 0;
  log = [];
  files = (product_of web, File (source_of web) ∷ File (product_of ui) ∷ []) ∷ [];
}

abbrev pub rules : List Rule
rules = rule_of_ui ∷ rule_of_web ∷ []

-- ---- the run

-- The files are the inputs, nothing was kept by earlier runs, and each task is looked up.
abbrev pub setting : Setting
setting = record {
  mode = Never;
  book = effect_of rules;
  listing = listing;
  bypasses = λ t. false;
  files = file_at listing.files;
  pairs = [];
}

-- ---- what becomes of the tasks

-- Each command ends with status 0. In the product of `web` stand the bytes of its source and behind
-- them those of the product of `ui`.
abbrev pub outcomes : List Outcome
outcomes =
    Done (record { log = codes "built"; status = 0; files = (product_of ui, codes "one") ∷ [] })
    ∷ Done (record { log = []; status = 0; files = (product_of web, codes "twoone") ∷ [] }) ∷ []
