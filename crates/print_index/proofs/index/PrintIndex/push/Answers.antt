use Rattle.std.proofs.Common.{◌≡◌, ◌∙◌, ◌<◌, ◌+◌, ◌^◌, [], ◌∷◌, ◌++◌, ℕ, Option, None, Some, IfSome, length, ap, arith}
use Rattle.print_index.specs.Index.{Index}
use Rattle.print_index.specs.Fields.{link_to}
use Rattle.print_index.proofs.Pushes.{lasts_below, pushed_as}
use Rattle.print_index.proofs.index.PrintIndex.push.Goals as goal

next_fits : (o : Option ℕ) (count : ℕ) → count < 2 ^ 63 → IfSome o (λ number. number < count) → IfSome o (λ number. number + 1 < 2 ^ 64)
next_fits None count small below = tt
next_fits (Some number) count small below = omega arith

pub link_to-requires : goal.link_to-requires
link_to-requires c =
    let vec = c.reserve.new.self in
    let items : length vec.items ≡ length c.self.inside.earlier.items = ap length c.reserve.ensures.items in
    let fits : length c.self.inside.earlier.items < 2 ^ 63 = let len = vec.ok.0 in let within = vec.ok.1 in let small = vec.small in omega arith in
    next_fits c.in_ok-before.before (length c.self.inside.earlier.items) fits
    (lasts_below c.self.inside.last c.self.inside.earlier.items c.args.digest c.in_ok-before.before c.self.invariant c.in_ok-before.ensures.old)

pub invariant_of-self-2 : goal.invariant_of-self-2
invariant_of-self-2 c =
    let inside = c.self.inside in
    let before = c.in_ok-before in
    let number : c.len-number.result ≡ length inside.earlier.items = c.len-number.ensures ∙ c.reserve.new.self.ok.0 ∙ ap length c.reserve.ensures.items in
    let items : c.push_reserved.new.self.items ≡ inside.earlier.items ++ c.link_to.result ∷ [] = c.push_reserved.ensures.items ∙ ap (λ xs. xs ++ c.link_to.result ∷ []) c.reserve.ensures.items in
    (pushed_as inside.last c.insert.new.self inside.earlier.items c.args.digest c.len-number.result c.link_to.result c.push_reserved.new.self.items
    c.self.invariant number items before.ensures.entries before.ensures.updates.0 (c.link_to.ensures ∙ ap link_to before.ensures.old)).1

pub returns-clause-pushed : goal.returns-clause-pushed
returns-clause-pushed c =
    let inside = c.self.inside in
    let before = c.in_ok-before in
    let number : c.len-number.result ≡ length inside.earlier.items = c.len-number.ensures ∙ c.reserve.new.self.ok.0 ∙ ap length c.reserve.ensures.items in
    let items : c.push_reserved.new.self.items ≡ inside.earlier.items ++ c.link_to.result ∷ [] = c.push_reserved.ensures.items ∙ ap (λ xs. xs ++ c.link_to.result ∷ []) c.reserve.ensures.items in
    (pushed_as inside.last c.insert.new.self inside.earlier.items c.args.digest c.len-number.result c.link_to.result c.push_reserved.new.self.items
    c.self.invariant number items before.ensures.entries before.ensures.updates.0 (c.link_to.ensures ∙ ap link_to before.ensures.old)).0
    ∙ ap (λ (x : Index). x.digests ++ c.args.digest ∷ []) c.self.view_is
