-- Sets of tasks.
use Rattle.std.proofs.Common.{◌≡◌, ◌||◌, Bool, true, false, cond, List, [], ◌∷◌, ◌++◌, refl, sym, ap, ◌∙◌}
use Rattle.std.specs.BTreeMap.{is_at}
use Rattle.std.specs.Cmp.{IsTotalOrder}
use Rattle.std.specs.Cmp.Lexicographic.{nat_list_cmp_total}
use Rattle.std.proofs.lemmas.Cmp.{then_total, on_total, eq_by_cmp_equiv}
use Rattle.std.proofs.lemmas.List.Folds.{list_any-append}
use Rattle.turbo_config.specs.declared.task_id.TaskId.{TaskId}
use Rattle.task_graph.specs.Ids.{id_cmp, has}

id_total : IsTotalOrder id_cmp
id_total = then_total (on_total (λ (id : TaskId). id.«package») nat_list_cmp_total) (on_total (λ (id : TaskId). id.task) nat_list_cmp_total)

either_way : (a b : TaskId) → is_at (id_cmp a) b ≡ is_at (id_cmp b) a
either_way a b = (eq_by_cmp_equiv id_total).symm a b

chosen : (s t : Bool) → cond s true t ≡ (t || s)
chosen true true = refl
chosen true false = refl
chosen false true = refl
chosen false false = refl

plain : (t : Bool) → (t || false) ≡ t
plain true = refl
plain false = refl

-- one task more
pub entered : (old new : Bool) (tasks : List TaskId) (task id : TaskId) → old ≡ has tasks id → new ≡ cond (is_at (id_cmp task) id) true old → new ≡ has (tasks ++ task ∷ []) id
entered old new tasks task id before now =
    now ∙ chosen (is_at (id_cmp task) id) old
    ∙ (λ j. before j || either_way task id j)
    ∙ sym (list_any-append (is_at (id_cmp id)) tasks (task ∷ []) ∙ ap (λ t. has tasks id || t) (plain (is_at (id_cmp id) task)))
