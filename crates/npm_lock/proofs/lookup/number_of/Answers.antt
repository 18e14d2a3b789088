use Rattle.std.proofs.Common.{sym}
use Rattle.rel_path.specs.Paths.{name_cmp}
use Rattle.npm_lock.specs.Lookup.{place_in}
use Rattle.std.proofs.lemmas.Fn.{always_returns_same}
use Rattle.npm_lock.proofs.Numbers.{number_here, none_here, number_none, searchable, tied_same}
use Rattle.npm_lock.proofs.lookup.number_of.Goals as goal

pub returns-in-Ok : goal.returns-in-Ok
returns-in-Ok c =
    let place = place_in c.args.name.now c.args.folder.now in
    let at = c.in-Ok.ensures.position (λ e. name_cmp e.location place) (always_returns_same _ _ _ (λ a r f' h. (h.met.0, h.met.1))) in
    sym (number_here c.args.entries.now c.in-Ok.number place c.requires.ascend c.in-Ok.ensures.bound (λ d. tied_same _ place (at d)))

pub returns-in-Err : goal.returns-in-Err
returns-in-Err c =
    let place = place_in c.args.name.now c.args.folder.now in
    let at = c.in-Err.ensures.position (λ e. name_cmp e.location place) (always_returns_same _ _ _ (λ a r f' h. (h.met.0, h.met.1))) (searchable c.args.entries.now place c.requires.ascend) in
    sym (number_none c.args.entries.now place (none_here c.args.entries.now place c.in-Err.field-0 at))
