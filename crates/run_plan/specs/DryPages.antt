-- The page of a dry run (Turborepo docs, "run": `--dry`): a block for each task, which says what a run would do with it.
use Rattle.std.specs.Prelude.{ℕ, zero, suc, ◌<◌, Bool, List, [], ◌∷◌, ◌++◌, map, length, Option, Some, None, is_some, if◌then◌else◌}
use Rattle.cache_api.specs.Pairs.{Pair}
use Rattle.listing.specs.declared.part.Part.{Part}
use Rattle.page.specs.declared.dry.DryMark.{DryMark}
use Rattle.page.specs.declared.dry.DryMark.TheVariants.{Hit, Miss, Bypass, NoScript}
use Rattle.page.specs.DryBlocks.{dry_block_text}
use Rattle.run_laws.specs.Ancestors.{part_at, has_script}
use Rattle.run_laws.specs.Marks.{found_for}
use Rattle.run_plan.specs.declared.plan.Plan.{Plan}
use Rattle.run_plan.specs.Plans.{id_at, bypasses}
use Rattle.run_plan.specs.Pages.{digits_of, IsCut}

-- what these pairs hold of a task, where a run would ask for it
abbrev pub dry_mark : Plan → List Pair → ℕ → DryMark
dry_mark plan pairs t = if has_script (part_at plan.listing t) then (if bypasses plan t then Bypass else if is_some (found_for pairs plan.listing t) then Hit else Miss) else NoScript

-- of the scripts of a task its own: the first of fewer than three, and else the second
abbrev pub own_of : List (List ℕ) → Option (List ℕ)
own_of [] = None
own_of (before ∷ own ∷ behind ∷ more) = Some own
own_of (own ∷ more) = Some own

abbrev pub own_script : Part → Option (List ℕ)
own_script part = own_of part.scripts

-- the lines of a task with these digits and this mark; its direct dependencies stand in the order of the plan
unfoldable pub dry_text : Plan → ℕ → List ℕ → DryMark → List ℕ
dry_text plan t digits mark = dry_block_text (id_at plan t) digits mark (own_script (part_at plan.listing t)) (map (id_at plan) (part_at plan.listing t).deps)

-- the lines of a task
abbrev pub dry_block : Plan → List Pair → ℕ → List ℕ
dry_block plan pairs t = dry_text plan t (digits_of plan t) (dry_mark plan pairs t)

-- the blocks of the first n places, in the order of the plan
abbrev pub dry_blocks : Plan → List Pair → ℕ → List ℕ
dry_blocks plan pairs zero = []
dry_blocks plan pairs (suc n) = dry_blocks plan pairs n ++ dry_block plan pairs n

-- the blocks of all tasks
abbrev pub dry_page : Plan → List Pair → List ℕ
dry_page plan pairs = dry_blocks plan pairs (length plan.listing.parts)

-- What a dry run that stopped has put: whole blocks in the order of the plan, and of the next one some first part.
pub record IsTornDry (plan : Plan) (pairs : List Pair) (output_failed : Bool) (before after : List ℕ) : Type 0 where
  pub shown : ℕ
  pub next : shown < length plan.listing.parts
  pub cut : IsCut output_failed (dry_block plan pairs shown) (before ++ dry_blocks plan pairs shown) after
