-- The note of a task, but for room.
use Rattle.std.proofs.Common.{◌≡◌, ◌≢◌, ℕ, Bool, true, false, ◌&&◌, refl, sym, ap, ◌∙◌, subst}
use Rattle.std.specs.declared.cmp.Ordering.{Ordering}
use Rattle.std.specs.declared.cmp.Ordering.TheVariants.{Less, Equal, Greater}
use Rattle.std.specs.Ordering.{ordering_reverse, is_eq}
use Rattle.std.specs.Prelude.{MatchBool}
use Rattle.std.proofs.lemmas.Bool.{false≢true, true≢false}
use Rattle.rel_path.specs.Paths.{Path, path_cmp}
use Rattle.rel_path.specs.Files.{FileMap}
use Rattle.rel_path.proofs.PathLaws.{path_cmp_total, path_ties, path_same}
use Rattle.globs.specs.declared.out_set.OutSet.{OutSet}
use Rattle.capture.specs.Owned.{SharesFirst, LargeFirst}
use Rattle.page.specs.declared.blocks.Note.{Note}
use Rattle.page.specs.declared.blocks.Note.TheVariants.{Stored, Shared, Large, Full}
use Rattle.run_laws.specs.Ancestors.{part_at}
use Rattle.run_laws.specs.Runs.{Setting}
use Rattle.run_plan.specs.declared.plan.Plan.{Plan}
use Rattle.run_plan.specs.Results.{CanTake, left_by, may_store, IsNote, NotedAs}
use Rattle.page_laws.specs.Pages.{with_room}

-- two paths of which neither goes before the other are one
neither_before : (p q : Path) → path_cmp p q ≢ Less → path_cmp q p ≢ Less → p ≡ q
neither_before p q less more = by (path_cmp p q) refl
  where
    by : (o : Ordering) → path_cmp p q ≡ o → p ≡ q
    by Less e = absurd (less e)
    by Equal e = path_same p q (path_ties p q ∙ ap is_eq e)
    by Greater e = absurd (more (path_cmp_total.antisymm q p ∙ ap ordering_reverse e))

module _ (files : FileMap) (outs : OutSet) where
  -- there is one least shared file
  one_shared : (p q : Path) → SharesFirst files outs p → SharesFirst files outs q → p ≡ q
  one_shared p q a b =
      neither_before p q (λ e. true≢false (sym a.is_shared ∙ b.least p a.there e))
      (λ e. true≢false (sym b.is_shared ∙ a.least q b.there e))

  none_shared : (limit : ℕ) (p : Path) → CanTake files outs limit → SharesFirst files outs p → ⊥
  none_shared limit p can a = true≢false (sym a.is_shared ∙ can.alone p a.there)

  -- and one least file that is too large
  one_large : (limit : ℕ) (p q : Path) → LargeFirst files outs limit p → LargeFirst files outs limit q → p ≡ q
  one_large limit p q a b =
      neither_before p q (λ e. false≢true (sym a.long ∙ b.least p a.owns e))
      (λ e. false≢true (sym b.long ∙ a.least q b.owns e))

  none_large : (limit : ℕ) (p : Path) → CanTake files outs limit → LargeFirst files outs limit p → ⊥
  none_large limit p can a = false≢true (sym a.long ∙ can.fit p a.owns)

  not_both : (limit : ℕ) (p q : Path) → SharesFirst files outs p → LargeFirst files outs limit q → ⊥
  not_both limit p q a b = true≢false (sym a.is_shared ∙ b.alone p a.there)

module _ (plan : Plan) (s : Setting) (room left t : ℕ) where
  abbrev files : FileMap
  files = left_by s t

  abbrev outs : OutSet
  outs = (part_at s.listing t).outs

  -- two notes of one result are one, but for room
  one_note : (a b : Note) → IsNote plan s room t a → IsNote plan s left t b → with_room a ≡ with_room b
  one_note Stored Stored x y = refl
  one_note Stored (Shared q) x y = absurd (none_shared files outs plan.limit q x y)
  one_note Stored (Large q) x y = absurd (none_large files outs plan.limit q x y)
  one_note Stored Full x y = refl
  one_note (Shared p) Stored x y = absurd (none_shared files outs plan.limit p y x)
  one_note (Shared p) (Shared q) x y = ap Shared (one_shared files outs p q x y)
  one_note (Shared p) (Large q) x y = absurd (not_both files outs plan.limit p q x y)
  one_note (Shared p) Full x y = absurd (none_shared files outs plan.limit p y.0 x)
  one_note (Large p) Stored x y = absurd (none_large files outs plan.limit p y x)
  one_note (Large p) (Shared q) x y = absurd (not_both files outs plan.limit q p y x)
  one_note (Large p) (Large q) x y = ap Large (one_large files outs plan.limit p q x y)
  one_note (Large p) Full x y = absurd (none_large files outs plan.limit p y.0 x)
  one_note Full Stored x y = refl
  one_note Full (Shared q) x y = absurd (none_shared files outs plan.limit q x.0 y)
  one_note Full (Large q) x y = absurd (none_large files outs plan.limit q x.0 y)
  one_note Full Full x y = refl

  -- and so are the notes of two ends
  pub noted_one : (e f : Bool) (a b : Note) → e ≡ f → NotedAs plan s room t e a → NotedAs plan s left t f b → with_room a ≡ with_room b
  noted_one e f a b same x y = by (e && may_store plan s t) x (subst (λ g. NotedAs plan s left t g b) (sym same) y)
    where
      by : (c : Bool) → MatchBool c (IsNote plan s room t a) (a ≡ Stored) → MatchBool c (IsNote plan s left t b) (b ≡ Stored) → with_room a ≡ with_room b
      by true x y = one_note a b x y
      by false x y = ap with_room (x ∙ sym y)

-- without a full store the note is the one with room
pub not_full : (note : Note) → note ≢ Full → with_room note ≡ note
not_full Stored ne = refl
not_full (Shared path) ne = refl
not_full (Large path) ne = refl
not_full Full ne = absurd (ne refl)
