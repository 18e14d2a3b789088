use Rattle.std.proofs.Common.{◌≡◌, ◌∙◌, sym, ap, ap₂, List, ℕ, None, refl}
use Rattle.serde_json.specs.Data.{Data, null, boolean, number, string, array, object}
use Rattle.serde_json.specs.Find.{as_object}
use Rattle.serde_json.specs.View.{view, members_view}
use Rattle.serde_json.proofs.Views.{view-Object}
use Rattle.npm_lock.specs.Cut.{is_in, picked, picked_in, cut_top, cut}
use Rattle.npm_lock.proofs.Accepted.{object_of}
use Rattle.npm_lock.proofs.cut.cut_value.Goals as goal

no_object : (folders locations : List (List ℕ)) (d : Data) → as_object d ≡ None → d ≡ cut folders locations d
unfolding cut
no_object folders locations null e = refl
no_object folders locations (boolean b) e = refl
no_object folders locations (number n) e = refl
no_object folders locations (string s) e = refl
no_object folders locations (array ds) e = refl
no_object folders locations (object ms) e = absurd (cc)

pub returns-in-None : goal.returns-in-None
returns-in-None c = record {
  cut = c.in_ok-clone-in-None.ensures.cases ∙ no_object c.args.folders.now c.args.locations.now (view c.args.value.now) (sym c.in-None.ensures);
}

pub returns : goal.returns
unfolding cut
returns c =
    let folders = c.as_slice.ensures.value in
    let d = object_of (view c.args.value.now) (members_view c.in-Some.top.now.entries) (sym c.in-Some.ensures) in
    record {
      cut = view-Object c.in_ok-cut_members-in-Some.field-0
          ∙ ap object (c.in_ok-cut_members-in-Some.ensures
          ∙ ap₂ (λ f l. picked (cut_top f l) (members_view c.in-Some.top.now.entries)) (ap is_in c.as_slice.ensures.value ∙ c.in_ok-folders.ensures.same) (ap is_in c.as_slice-in-Some.ensures.value ∙ c.in_ok-locations.ensures.same))
          ∙ ap (picked_in (cut_top (is_in c.args.folders.now) (is_in c.args.locations.now))) (sym d);
    }
