use Rattle.std.proofs.Common.{ap, ◌∙◌, length, map}
use Rattle.std.specs.Option.{option_or}
use Rattle.npm_lock.specs.Lookup.{place_in, above_without_modules, first_number}
use Rattle.npm_lock.proofs.Found.{found_is}
use Rattle.npm_lock.proofs.lookup.found_number.Goals as goal

pub returns-in-Some : goal.returns-in-Some
returns-in-Some c =
    let rest = first_number c.args.entries.now (map (place_in c.args.name.now) (above_without_modules c.args.from.now (length c.args.from.now))) in
    ap (λ o. option_or o rest) c.in-Some.ensures ∙ found_is c.args.entries.now c.args.from.now c.args.name.now

pub returns-in-None : goal.returns-in-None
returns-in-None c =
    let rest = first_number c.args.entries.now (map (place_in c.args.name.now) (above_without_modules c.args.from.now (length c.args.from.now))) in
    c.found_above.ensures ∙ ap (λ o. option_or o rest) c.in-None.ensures ∙ found_is c.args.entries.now c.args.from.now c.args.name.now
