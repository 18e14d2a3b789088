use Rattle.std.proofs.Common.{◌≡◌, nat_lt, false, ◌∙◌, sym, ap, subst, ◌≤◌}
use Rattle.std.proofs.lemmas.Bool.{lt-ltb, le-ltb}
use Rattle.run_core.specs.declared.states.Next.TheVariants.{Start}
use Rattle.run_core.specs.Greedy.{count_below}
use Rattle.run_core.specs.Core.{rules, states, rules_in, states_in}
use Rattle.run_core.specs.Machine.{is_missed, least, runs, start_or_wait, wait_or_end}
use Rattle.run_core.proofs.Moved.{start-least, start-none}
use Rattle.run_core.proofs.Views.{outward, past-waits, start-full, start-free}
use Rattle.run_core.proofs.scheduler.Core.start_or_wait.Goals as goal

pub returns-then-self : goal.returns-then-self
returns-then-self c =
    let s = c.self.inside in
    let full = outward s.deps.items s.commands.items s.width s.mode (λ g st. nat_lt (count_below (λ u. runs (st u)) g.size) g.width ≡ false) s.states.items c.args.self.now c.self.view_is
    (ap (λ n. nat_lt n s.width) (sym c.self.invariant.agree.commands) ∙ le-ltb s.running s.width c.if-self.true) in
    c.wait_or_finish.ensures ∙ sym (start-full (rules c.args.self.now) (states c.args.self.now) full (least (λ t. is_missed (states c.args.self.now t)) (rules c.args.self.now).size))

pub returns-in-Some : goal.returns-in-Some
returns-in-Some c =
    let s = c.self.inside in
    let i = c.self.invariant in
    outward s.deps.items s.commands.items s.width s.mode (λ g st. Start c.in-Some.t ≡ start_or_wait g st (least (λ u. is_missed (st u)) g.size)) s.states.items c.args.self.now c.self.view_is
    (let g = rules_in s.deps.items s.width s.mode in
    let st = states_in s.states.items in
    let found = (start-least g i.lower st s.unmet.items s.ready s.missed s.running s.failed i.agree (λ u l. past-waits s.states.items u (subst (λ n. n ≤ u) (sym i.state_count) l)) c.in-Some.t c.in-Some.ensures).1 in
    let free = ap (λ n. nat_lt n s.width) (sym i.agree.commands) ∙ lt-ltb s.running s.width c.if-self.false in
    sym (ap (start_or_wait g st) found ∙ start-free g st c.in-Some.t free))

pub returns-in-None : goal.returns-in-None
returns-in-None c =
    let s = c.self.inside in
    let i = c.self.invariant in
    c.wait_or_finish-in-None.ensures ∙ outward s.deps.items s.commands.items s.width s.mode (λ g st. wait_or_end g st ≡ start_or_wait g st (least (λ u. is_missed (st u)) g.size)) s.states.items c.args.self.now c.self.view_is
    (let g = rules_in s.deps.items s.width s.mode in
    let st = states_in s.states.items in
    sym (ap (start_or_wait g st) (start-none g i.lower st s.unmet.items s.ready s.missed s.running s.failed i.agree c.in-None.ensures)))
