use Rattle.std.proofs.Common.{◌≡◌, ◌∙◌, ap}
use Rattle.std.specs.Prelude.{filter}
use Rattle.rel_path.specs.Paths.{name_cmp}
use Rattle.workspaces.specs.Lists.{ascending}
use Rattle.workspaces.specs.Edges.{hard_names, soft_names, is_hard_need, is_soft_need, names_by, names_in}
use Rattle.workspaces.proofs.NeedLists.{four_maps}
use Rattle.workspaces.proofs.needs.needs_of.Goals as goal

pub returns-clause-value : goal.returns-clause-value
unfolding hard_names soft_names
returns-clause-value c =
    let m = c.args.manifest.now in
    let hard : c.add_needs-4.new.found.hard.items ≡ filter (is_hard_need c.args.packages.now m) (names_in m) =
    c.in_ok-add_needs-4.ensures.hard ∙ (rw (c.in_ok-add_needs-3.ensures.hard, c.in_ok-add_needs-2.ensures.hard, c.in_ok-add_needs.ensures.hard, c.new.ensures.items) (four_maps (is_hard_need c.args.packages.now m) (names_by m.optional) (names_by m.deps) (names_by m.dev) (names_by m.peer))) in
    let soft : c.add_needs-4.new.found.soft.items ≡ filter (is_soft_need c.args.packages.now m) (names_in m) =
    c.in_ok-add_needs-4.ensures.soft ∙ (rw (c.in_ok-add_needs-3.ensures.soft, c.in_ok-add_needs-2.ensures.soft, c.in_ok-add_needs.ensures.soft, c.new-2.ensures.items) (four_maps (is_soft_need c.args.packages.now m) (names_by m.optional) (names_by m.deps) (names_by m.dev) (names_by m.peer))) in
    let first : c.from_vec-hard.result ≡ hard_names c.args.packages.now m = c.from_vec-hard.ensures ∙ (c.in_ok-sorted_texts.ensures.value ∙ ap (ascending name_cmp) hard) in
    let second : c.from_vec-soft.result ≡ soft_names c.args.packages.now m = c.from_vec-soft.ensures ∙ (c.in_ok-sorted_texts-2.ensures.value ∙ ap (ascending name_cmp) soft) in
    λ i. record { hard = first i; soft = second i }
