-- Tasks that were found, and those that wait.
use Rattle.std.proofs.Common.{◌≡◌, ◌||◌, ◌⊎◌, inl, inr, Bool, true, false, cond, List, [], ◌∷◌, ◌++◌, map, refl, sym, ap, ◌∙◌, subst}
use Rattle.std.specs.Prelude.{Some, is_some}
use Rattle.std.specs.Map.{lookup}
use Rattle.std.specs.List.Sorted.{IsStrictlySortedBy}
use Rattle.std.specs.Ordering.{match_ordering}
use Rattle.std.specs.declared.cmp.Ordering.{Ordering}
use Rattle.std.specs.declared.cmp.Ordering.TheVariants.{Less, Equal, Greater}
use Rattle.std.specs.BTreeMap.{insert_entry, is_at}
use Rattle.std.specs.BTreeSet.{insert_key}
use Rattle.std.proofs.lemmas.Bool.{false≢true}
use Rattle.task_definitions.specs.Setup.{Setup}
use Rattle.turbo_config.specs.declared.task_id.TaskId.{TaskId}
use Rattle.workspaces.specs.Space.{Space}
use Rattle.workspaces.specs.Lists.{Has, put_in}
use Rattle.task_graph.specs.declared.edges.Row.{Row}
use Rattle.task_graph.specs.Ids.{id_cmp, has}
use Rattle.task_graph.specs.Edges.{row_of, edges}
use Rattle.task_graph.specs.Graphs.{IsClosed, AreTasks}
use Rattle.task_graph.specs.Fronts.{AreRowsOf, Visits}
use Rattle.task_graph.proofs.Ids.{or_cases, or_left, or_right, at_same, at_self, id_total, id_tied, has-from, from-has, has-append}
use Rattle.workspaces.proofs.Order.{sorted-put_in, has-put_in, put_in-has}

-- ---- rows by their tasks

module _ (row : TaskId → Row) where
  found_row : (ids : List TaskId) (id : TaskId) → is_some (lookup (is_at (id_cmp id)) (map (λ x. (x, row x)) ids)) ≡ has ids id
  found_row [] id = refl
  found_row (x ∷ ids) id = by (is_at (id_cmp id) x) (found_row ids id) where
    by : (t : Bool) → is_some (lookup (is_at (id_cmp id)) (map (λ y. (y, row y)) ids)) ≡ has ids id → is_some (cond t (Some (row x)) (lookup (is_at (id_cmp id)) (map (λ y. (y, row y)) ids))) ≡ (t || has ids id)
    by true e = refl
    by false e = e

  put_row : (ids : List TaskId) (id : TaskId) → insert_entry id_cmp (map (λ x. (x, row x)) ids) id (row id) ≡ map (λ x. (x, row x)) (insert_key id_cmp ids id)
  put_row [] id = refl
  put_row (x ∷ ids) id = by (id_cmp id x) refl (put_row ids id) where
    by : (r : Ordering) → id_cmp id x ≡ r → insert_entry id_cmp (map (λ y. (y, row y)) ids) id (row id) ≡ map (λ y. (y, row y)) (insert_key id_cmp ids id)
        → match_ordering r ((id, row id) ∷ (x, row x) ∷ map (λ y. (y, row y)) ids) ((x, row id) ∷ map (λ y. (y, row y)) ids) ((x, row x) ∷ insert_entry id_cmp (map (λ y. (y, row y)) ids) id (row id))
        ≡ map (λ y. (y, row y)) (match_ordering r (id ∷ x ∷ ids) (x ∷ ids) (x ∷ insert_key id_cmp ids id))
    by Less e inner = refl
    by Equal e inner = ap (λ y. (x, row y) ∷ map (λ z. (z, row z)) ids) (id_tied id x e)
    by Greater e inner = ap (λ es. (x, row x) ∷ es) inner

-- ---- one more task

key_put : (ids : List TaskId) (id : TaskId) → insert_key id_cmp ids id ≡ put_in id_cmp id ids
key_put [] id = refl
key_put (x ∷ ids) id = by (id_cmp id x) (key_put ids id) where
  by : (r : Ordering) → insert_key id_cmp ids id ≡ put_in id_cmp id ids → match_ordering r (id ∷ x ∷ ids) (x ∷ ids) (x ∷ insert_key id_cmp ids id) ≡ match_ordering r (id ∷ x ∷ ids) (x ∷ ids) (x ∷ put_in id_cmp id ids)
  by Less e = refl
  by Equal e = refl
  by Greater e = ap (λ xs. x ∷ xs) e

put_up : (ids : List TaskId) (id : TaskId) → IsStrictlySortedBy id_cmp ids → IsStrictlySortedBy id_cmp (insert_key id_cmp ids id)
put_up ids id up = subst (IsStrictlySortedBy id_cmp) (sym (key_put ids id)) (sorted-put_in id_cmp id_total id ids up)

put_has : (ids : List TaskId) (id x : TaskId) → has (insert_key id_cmp ids id) x ≡ true → (id ≡ x) ⊎ (has ids x ≡ true)
put_has ids id x is = elim (has-put_in id_cmp id_total id ids x (subst (λ xs. Has xs x) (key_put ids id) (from-has (insert_key id_cmp ids id) x is))) [ inl here ↦ inl here | inr old ↦ inr (has-from ids x old) ]

has_put : (ids : List TaskId) (id x : TaskId) → (id ≡ x) ⊎ (has ids x ≡ true) → has (insert_key id_cmp ids id) x ≡ true
has_put ids id x among = has-from (insert_key id_cmp ids id) x (subst (λ xs. Has xs x) (sym (key_put ids id)) (put_in-has id_cmp id_total id ids (λ y is tied. id_tied id y tied) x (elim among [ inl here ↦ inl here | inr old ↦ inr (from-has ids x old) ])))

-- ---- a task is looked at

module _ (space : Space) (config : Setup) where
  pub row_found : (ids : List TaskId) (rows : List (TaskId × Row)) (id : TaskId) → AreRowsOf space config ids rows → is_some (lookup (is_at (id_cmp id)) rows) ≡ has ids id
  row_found ids rows id are = ap (λ es. is_some (lookup (is_at (id_cmp id)) es)) are ∙ found_row (row_of space config) ids id

  pub row_put : (ids : List TaskId) (rows : List (TaskId × Row)) (id : TaskId) → AreRowsOf space config ids rows → AreRowsOf space config (insert_key id_cmp ids id) (insert_entry id_cmp rows id (row_of space config id))
  row_put ids rows id are = ap (λ es. insert_entry id_cmp es id (row_of space config id)) are ∙ put_row (row_of space config) ids id

  -- what was found with what waits is closed, and within every closed set
  pub record Reaches (starts ids waiting : List TaskId) : Type 0 where
    pub ascend : IsStrictlySortedBy id_cmp ids
    pub start : (id : TaskId) → has starts id ≡ true → (has ids id ≡ true) ⊎ (has waiting id ≡ true)
    pub edge : (id next : TaskId) → has ids id ≡ true → has (edges space config id) next ≡ true → (has ids next ≡ true) ⊎ (has waiting next ≡ true)
    pub within : (other : TaskId → Bool) → IsClosed space config starts other → (id : TaskId) → (has ids id ≡ true) ⊎ (has waiting id ≡ true) → other id ≡ true

  module _ (starts ids waiting : List TaskId) (task : TaskId) (reaches : Reaches starts ids (waiting ++ task ∷ [])) where
    split : (id : TaskId) → has (waiting ++ task ∷ []) id ≡ true → (has waiting id ≡ true) ⊎ (task ≡ id)
    split id is = elim (or_cases (has waiting id) (has (task ∷ []) id) (sym (has-append waiting (task ∷ []) id) ∙ is)) [ inl old ↦ inl old | inr new ↦ inr (sym (at_same id task (single (is_at (id_cmp id) task) new))) ] where
      single : (t : Bool) → (t || false) ≡ true → t ≡ true
      single true e = refl
      single false e = e

    task_waits : has (waiting ++ task ∷ []) task ≡ true
    task_waits = has-append waiting (task ∷ []) task ∙ or_right (has waiting task) (has (task ∷ []) task) (or_left (is_at (id_cmp task) task) false (at_self task))

    -- one that was found before
    pub reaches_known : has ids task ≡ true → Reaches starts ids waiting
    reaches_known known = record {
      ascend = reaches.ascend;
      start = λ id is. still id (reaches.start id is);
      edge = λ id next is lead. still next (reaches.edge id next is lead);
      within = λ other closed id among. reaches.within other closed id (elim among [ inl is ↦ inl is | inr is ↦ inr (has-append waiting (task ∷ []) id ∙ or_left (has waiting id) (has (task ∷ []) id) is) ]);
    } where
      still : (id : TaskId) → (has ids id ≡ true) ⊎ (has (waiting ++ task ∷ []) id ≡ true) → (has ids id ≡ true) ⊎ (has waiting id ≡ true)
      still id (inl is) = inl is
      still id (inr waits) = elim (split id waits) [ inl is ↦ inr is | inr here ↦ inl (subst (λ x. has ids x ≡ true) here known) ]

    -- and one that is new
    pub reaches_new : Reaches starts (insert_key id_cmp ids task) (waiting ++ edges space config task)
    reaches_new = record {
      ascend = put_up ids task reaches.ascend;
      start = λ id is. still id (reaches.start id is);
      edge = λ id next is lead. edge id next (put_has ids task id is) lead;
      within = λ other closed id among. within other closed id among;
    } where
      still : (id : TaskId) → (has ids id ≡ true) ⊎ (has (waiting ++ task ∷ []) id ≡ true) → (has (insert_key id_cmp ids task) id ≡ true) ⊎ (has (waiting ++ edges space config task) id ≡ true)
      still id (inl is) = inl (has_put ids task id (inr is))
      still id (inr waits) = elim (split id waits) [ inl is ↦ inr (has-append waiting (edges space config task) id ∙ or_left (has waiting id) (has (edges space config task) id) is) | inr here ↦ inl (has_put ids task id (inl here)) ]

      edge : (id next : TaskId) → (task ≡ id) ⊎ (has ids id ≡ true) → has (edges space config id) next ≡ true → (has (insert_key id_cmp ids task) next ≡ true) ⊎ (has (waiting ++ edges space config task) next ≡ true)
      edge id next (inl here) lead = inr (has-append waiting (edges space config task) next ∙ or_right (has waiting next) (has (edges space config task) next) (subst (λ x. has (edges space config x) next ≡ true) (sym here) lead))
      edge id next (inr old) lead = still next (reaches.edge id next old lead)

      within : (other : TaskId → Bool) → IsClosed space config starts other → (id : TaskId) → (has (insert_key id_cmp ids task) id ≡ true) ⊎ (has (waiting ++ edges space config task) id ≡ true) → other id ≡ true
      within other closed id (inl is) = elim (put_has ids task id is) [ inl here ↦ subst (λ x. other x ≡ true) here (reaches.within other closed task (inr task_waits)) | inr old ↦ reaches.within other closed id (inl old) ]
      within other closed id (inr is) = elim (or_cases (has waiting id) (has (edges space config task) id) (sym (has-append waiting (edges space config task) id) ∙ is)) [
        | inl old ↦ reaches.within other closed id (inr (has-append waiting (task ∷ []) id ∙ or_left (has waiting id) (has (task ∷ []) id) old))
        | inr lead ↦ closed.edge task id (reaches.within other closed task (inr task_waits)) lead
      ]

  -- nothing waits
  pub reaches_last : (starts ids : List TaskId) → Reaches starts ids [] → AreTasks space config starts ids
  reaches_last starts ids reaches = record {
    ascend = reaches.ascend;
    least = (
      record {
        start = λ id is. plain id (reaches.start id is);
        edge = λ id next is lead. plain next (reaches.edge id next is lead);
      },
      λ other closed id is. reaches.within other closed id (inl is),
    );
  } where
    plain : (id : TaskId) → (has ids id ≡ true) ⊎ (has [] id ≡ true) → has ids id ≡ true
    plain id (inl is) = is
    plain id (inr none) = absurd (false≢true none)

  -- what the invariant says
  pub record Reaching (starts : List TaskId) (rows : List (TaskId × Row)) (waiting : List TaskId) : Type 0 where
    pub ids : List TaskId
    pub are : AreRowsOf space config ids rows
    pub reaches : Reaches starts ids waiting

  pub reaching_more : (starts : List TaskId) (rows : List (TaskId × Row)) (waiting : List TaskId) (task : TaskId) (new : List (TaskId × Row)) (new_waiting : List TaskId)
      → Reaching starts rows (waiting ++ task ∷ []) → Visits space config task rows waiting new new_waiting → Reaching starts new new_waiting
  reaching_more starts rows waiting task new new_waiting reaching visits = by (has reaching.ids task) refl (visits reaching.ids reaching.are) where
    by : (t : Bool) → has reaching.ids task ≡ t → AreRowsOf space config (cond t reaching.ids (insert_key id_cmp reaching.ids task)) new × (new_waiting ≡ cond t waiting (waiting ++ edges space config task)) → Reaching starts new new_waiting
    by true e after = record { ids = reaching.ids; are = after.0; reaches = subst (Reaches starts reaching.ids) (sym after.1) (reaches_known starts reaching.ids waiting task reaching.reaches e) }
    by false e after = record { ids = insert_key id_cmp reaching.ids task; are = after.0; reaches = subst (Reaches starts (insert_key id_cmp reaching.ids task)) (sym after.1) (reaches_new starts reaching.ids waiting task reaching.reaches) }
