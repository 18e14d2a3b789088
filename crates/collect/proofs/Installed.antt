-- The installed packages that packages use.
use Rattle.std.specs.List.{join_with_byte}
use Rattle.npm_lock.specs.declared.start.Start.{Start}
use Rattle.npm_lock.specs.declared.error.ExtErr.{ExtErr}
use Rattle.npm_lock.specs.Externals.{Externals}
use Rattle.workspaces.specs.declared.needs.Needs.{Needs}
use Rattle.workspaces.specs.Members.{needs_by}
use Rattle.collect.specs.Parts.{starts_from, starts_of}
use Rattle.std.proofs.Common.{◌≡◌, ◌≢◌, ℕ, ◌<◌, ◌++◌, [], refl, List, length, get_or, set, take, sym, ap, subst, ◌∙◌, ⊎_elim, arith, length-set, get_or-set_same, get_or-set_other}
use Rattle.std.specs.Prelude.{Option, Some, None, IfSome, Result, Err}
use Rattle.std.proofs.lemmas.Bool.{cases_eq}
use Rattle.std.proofs.lemmas.Option.{slice_get-get_or}
use Rattle.serde_json.specs.Data.{Data}
use Rattle.serde_json.specs.View.{view}
use Rattle.workspaces.specs.declared.member.Package.{Package}
use Rattle.workspaces.specs.Space.{Space, root_package, owners}
use Rattle.task_inputs.specs.declared.definitions.DefinedTask.{DefinedTask}
use Rattle.collect.specs.declared.error.CollectErr.{CollectErr}
use Rattle.collect.specs.declared.uses.Installed.{Installed}
use Rattle.collect.specs.declared.error.CollectErr.TheVariants.{Missing, TooLarge, TooMuch, Failed, OutOfMemory}
use Rattle.collect.specs.Listings.{ArePaired}
use Rattle.collect.specs.Steps.{own_starts, root_starts, IsRootReach, UsesAt, AreKnown, GivesUses, FindsAt, AllUses}
use Rattle.collect.proofs.Lists.{paired_left, there}

module _ (space : Space) (lock : Option Data) where
  -- the uses of one owner more
  pub known_more : (known : List (Option (List (List ℕ × List ℕ)))) (number : ℕ) (pairs : List (List ℕ × List ℕ)) → number < length (owners space) → AreKnown space lock known → UsesAt space lock number pairs → AreKnown space lock (set known number (Some pairs))
  known_more known number pairs lt are uses = record {
    size = length-set known number (Some pairs) ∙ are.size;
    each = λ o. ⊎_elim (here o) (there_too o) (cases_eq o number);
  } where
    here : (o : ℕ) → o ≡ number → IfSome (get_or (set known number (Some pairs)) o None) (UsesAt space lock o)
    here o same = subst (λ k. IfSome (get_or (set known number (Some pairs)) k None) (UsesAt space lock k)) (sym same) (subst (λ v. IfSome v (UsesAt space lock number)) (sym (get_or-set_same known number (Some pairs) None (omega (arith, lt, are.size)))) uses)

    there_too : (o : ℕ) → o ≢ number → IfSome (get_or (set known number (Some pairs)) o None) (UsesAt space lock o)
    there_too o other = subst (λ v. IfSome v (UsesAt space lock o)) (sym (get_or-set_other known number o (Some pairs) None other)) (are.each o)

  pub uses_stop : {X : Type 0} (items : X → List (List (List ℕ × List ℕ))) (tasks : List DefinedTask) (i : ℕ) (t : DefinedTask) (uses : List (List (List ℕ × List ℕ))) (e : CollectErr) → i < length tasks → get_or tasks i t ≡ t → t.owner < length (owners space)
      → ArePaired (λ t pairs. UsesAt space lock t.owner pairs) (take i tasks) uses → ((d : Package) → GivesUses space lock (get_or (owners space) t.owner d) (Err e)) → AllUses space lock tasks items (Err e)
  uses_stop items tasks i t uses (Missing from name) lt at stands so gives = record {
    place = i;
    task = t;
    stands = slice_get-get_or tasks i t lt ∙ ap Some at;
    found = paired_left (λ t pairs. UsesAt space lock t.owner pairs) (λ t. FindsAt space lock t.owner) (take i tasks) uses (λ t pairs r. (pairs, r)) so;
    misses = gives;
  }
  uses_stop items tasks i t uses (TooLarge path) lt at stands so gives = gives (there (owners space) t.owner stands).0
  uses_stop items tasks i t uses (TooMuch total) lt at stands so gives = gives (there (owners space) t.owner stands).0
  uses_stop items tasks i t uses Failed lt at stands so gives = gives (there (owners space) t.owner stands).0
  uses_stop items tasks i t uses OutOfMemory lt at stands so gives = tt

pub own_are : (space : Space) (p : Package) (base starts : List Start) (folder : List ℕ) (needs : Needs) → base ≡ [] → starts ≡ base ++ starts_from folder needs → folder ≡ join_with_byte 47 p.folder → needs ≡ needs_by space.packages p → starts ≡ own_starts space p
unfolding needs_by
own_are space p base starts folder needs b s at n = rw (s, b, at, n) refl

pub root_are : (space : Space) (base starts : List Start) (root : List ℕ) (needs : Needs) → starts ≡ base ++ starts_from root needs → root ≡ [] → needs ≡ needs_by space.packages (root_package space.root) → starts ≡ base ++ root_starts space
unfolding needs_by
root_are space base starts root needs s r n = rw (s, r, n) refl

pub starts_are : (space : Space) (p : Package) (own root all : List Start) → own ≡ own_starts space p → root ≡ root_starts space → all ≡ own ++ root → all ≡ starts_of space p
unfolding starts_of
starts_are space p own root all o r a = rw (a, o, r) refl

-- what is reached beyond what the root reaches is what is reached from all starts
pub beyond_root : (space : Space) (p : Package) (i : Installed) (own : List Start) (result : Result (List (List ℕ × List ℕ)) ExtErr) → IsRootReach space i → own ≡ own_starts space p → Externals (view i.lock.now) (own ++ i.root.starts) result
    → Externals (view i.lock.now) (starts_of space p) result
beyond_root space p i own result reach o e = subst (λ all. Externals (view i.lock.now) all result) (starts_are space p own i.root.starts (own ++ i.root.starts) o reach.starts refl) e
