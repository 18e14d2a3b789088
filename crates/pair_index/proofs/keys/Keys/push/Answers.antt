use Rattle.std.proofs.Common.{◌≡◌, ◌++◌, ◌∷◌, [], ℕ, List, length, ◌∙◌, ap}
use Rattle.pair_index.specs.Keys.{number_where}
use Rattle.pair_index.proofs.KeyLaws.{keys_push}
use Rattle.pair_index.proofs.keys.Keys.push.Goals as goal

pub returns-clause-keys : goal.returns-clause-keys
returns-clause-keys c pairs pair x is told =
    let old = c.args.self.now in
    let y = keys_push old pairs pair c.args.len c.args.print x is told c.push_print.new.self.lengths c.push_print.ensures.lengths in
    let same : c.push_print.new.self.lens.items ≡ old.lens.items =
    ap (λ v. v.items) c.push_print.ensures.lens ∙ c.reserve.ensures.items in
    record {
      lens = c.push_reserved.ensures.items ∙ ap (λ (l : List ℕ). l ++ c.args.len ∷ []) same ∙ y.lens_are;
      numbers = c.in_ok-push_print.ensures.numbers
          ∙ ap (λ (l : List ℕ). old.hashed.items ++ number_where c.args.print (length l)) c.reserve.ensures.items
          ∙ y.numbers_are;
      prints = c.in_ok-push_print.ensures.prints ∙ y.prints_are;
    }
