use Rattle.std.proofs.Common.{◌≡◌, ◌∙◌, ap, Ok, ◌++◌, ◌∷◌, []}
use Rattle.serde_json.specs.View.{view}
use Rattle.npm_lock.proofs.Answered.{printed_lock}
use Rattle.npm_lock.proofs.lock.Lock.print.Goals as goal

pub returns-clause-back : goal.returns-clause-back
returns-clause-back c =
    let d = view c.self.inside.value in
    let text = c.in_ok-text.text.items in
    let bytes : c.from_vec.result ≡ text ++ 10 ∷ [] = c.from_vec.ensures ∙ c.in_ok-push.ensures.items in
    printed_lock d c.from_vec.result text c.self.invariant.accepted bytes c.in_ok-text.ensures.layout c.in_ok-text.ensures.utf8 c.in_ok-text.ensures.order (c.in_ok-text.ensures.reads_back c.self.invariant.shallow) ∙ ap (λ v. Ok (view v)) c.self.view_is

pub returns-clause-printed : goal.returns-clause-printed
returns-clause-printed c = rw (← c.self.view_is) (record {
  text = c.in_ok-text.text.items;
  line_feed = c.from_vec.ensures ∙ c.in_ok-push.ensures.items;
  layout = c.in_ok-text.ensures.layout;
  order = c.in_ok-text.ensures.order;
})
