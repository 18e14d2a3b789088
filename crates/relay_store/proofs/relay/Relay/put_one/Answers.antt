use Rattle.std.proofs.Common.{◌≡◌, true, cond, Bool, List, [], ◌∷◌, map, Ok, Err, refl, sym}
use Rattle.std.proofs.Common.{◌∙◌, ap}
use Rattle.std.specs.List.{list_all}
use Rattle.std.proofs.lemmas.Result.{err_from_is_err_and}
use Rattle.cache_api.specs.declared.puts.Put.{Put}
use Rattle.cache_api.specs.declared.puts.Puts.{Puts}
use Rattle.pair_writer.specs.Putting.{new_pair}
use Rattle.cli_words.specs.declared.order.Access.{Access}
use Rattle.relay_store.specs.Puts.{Space, takes, filled, puts_in}
use Rattle.relay_store.specs.Relays.{state_of, spaces, stores_of}
use Rattle.relay_store.proofs.Devices.{both_tell, tell_as, gives_none, gives_full, gives_all}
use Rattle.relay_store.proofs.Devices.{gives_ok, gives_err, gives_then, gives_stores, only_one}
use Rattle.relay_store.proofs.Fitting.{fit_one}
use Rattle.relay_store.proofs.Filled.{local_there, second_there, chosen_one, full_one}
use Rattle.relay_store.proofs.Filled.{stored_one, spaces_filled}
use Rattle.relay_store.proofs.Putting.{putting_then, putting_as, putting_err, putting_ok}
use Rattle.relay_store.proofs.relay.Relay.put_one.Goals as goal

pub returns-in_err-takes-clause-putting : goal.returns-in_err-takes-clause-putting
returns-in_err-takes-clause-putting g c =
    let p = err_from_is_err_and c.from_residual.result c.from_residual.ensures.1 in
    rw (p.1, p.2) (putting_err {T = Bool} c.args.self.now c.takes.new.self [] _
    c.in_err-takes.field-0.0 c.in_err-takes.ensures.putting)

pub returns-in_err-takes-clause-devices : goal.returns-in_err-takes-clause-devices
returns-in_err-takes-clause-devices g c =
    let old = c.args.self.now in
    let mid = c.takes.new.self in
    let p = err_from_is_err_and c.from_residual.result c.from_residual.ensures.1 in
    let x = c.in_err-takes.ensures in
    rw (p.1, p.2) (gives_err (λ v. []) (λ (put : Put). put ∷ []) old (stores_of mid) []
    (new_pair c.args.pair ∷ []) (Ok tt) c.in_err-takes.field-0.0
    (gives_none old mid x.local_read x.second_read))

pub returns-then-not-branch-clause-devices : goal.returns-then-not-branch-clause-devices
returns-then-not-branch-clause-devices g c =
    let pair = new_pair c.args.pair in
    let old = c.args.self.now in
    let x = c.in_ok-takes.ensures in
    gives_full old c.takes.new.self pair x.local_read x.second_read
    (λ told. full_one (list_all (takes pair) (spaces old))
    (sym (x.takes told) ∙ c.if-not-branch.true))

pub returns-then-not-branch-clause-outcome : goal.returns-then-not-branch-clause-outcome
returns-then-not-branch-clause-outcome g c t u =
    let pair = new_pair c.args.pair in
    let old = c.args.self.now in
    sym (full_one (list_all (takes pair) (spaces old))
    (sym (c.in_ok-takes.ensures.takes (both_tell old.access t u)) ∙ c.if-not-branch.true))

pub put_fitting-requires-clause-local : goal.put_fitting-requires-clause-local
put_fitting-requires-clause-local g c puts told =
    let mid = c.takes.new.self in
    let same = ap (λ base. base.access) c.in_ok-takes.ensures.putting.keeps.base in
    fit_one mid.local (new_pair c.args.pair) (local_there mid.serves puts)
    (c.in_ok-takes.ensures.local c.if-not-branch.false
    (sym (ap (λ (x : Access). x.local_puts) same) ∙ puts) told)

pub put_fitting-requires-clause-second : goal.put_fitting-requires-clause-second
put_fitting-requires-clause-second g c puts told =
    let mid = c.takes.new.self in
    let same = ap (λ base. base.access) c.in_ok-takes.ensures.putting.keeps.base in
    fit_one mid.second (new_pair c.args.pair) (second_there mid.serves puts)
    (c.in_ok-takes.ensures.second c.if-not-branch.false
    (sym (ap (λ (x : Access). x.second_puts) same) ∙ puts) told)

pub returns-in_err-puts-clause-putting : goal.returns-in_err-puts-clause-putting
returns-in_err-puts-clause-putting g c =
    let pair = new_pair c.args.pair in
    let old = c.args.self.now in
    let p = err_from_is_err_and c.from_residual-in_err-puts.result
    c.from_residual-in_err-puts.ensures.1 in
    let e = c.in_err-puts.field-0.0 in
    let both = putting_then old c.takes.new.self c.put_fitting.new.self [] (pair ∷ [])
    c.in_ok-takes.field-0 (Err e) c.in_ok-takes.ensures.putting c.in_err-puts.ensures.putting in
    rw (p.1, p.2) (putting_as old c.put_fitting.new.self (pair ∷ []) _ (Err e)
    (λ told. chosen_one (list_all (takes pair) (spaces old)) pair
    (sym (c.in_ok-takes.ensures.takes (both_tell old.access told.0 told.1))
    ∙ c.if-not-branch.false))
    (putting_err {T = Puts} {U = Put} old c.put_fitting.new.self (pair ∷ []) [] e both))

pub returns-in_err-puts-clause-devices : goal.returns-in_err-puts-clause-devices
returns-in_err-puts-clause-devices g c =
    let pair = new_pair c.args.pair in
    let old = c.args.self.now in
    let mid = c.takes.new.self in
    let new = c.put_fitting.new.self in
    let first = c.in_ok-takes.ensures in
    let then = c.in_err-puts.ensures in
    let same = ap (λ base. base.access) first.putting.keeps.base in
    let p = err_from_is_err_and c.from_residual-in_err-puts.result
    c.from_residual-in_err-puts.ensures.1 in
    let e = c.in_err-puts.field-0.0 in
    let one = gives_all mid new (pair ∷ []) 0 (Err e) then.local_grown then.second_grown tt
    (λ told. let back = tell_as mid.access old.access (sym same) told in
    ap (λ (l : List Space). puts_in l (pair ∷ [])) (first.same back)
    ∙ sym (stored_one (list_all (takes pair) (spaces old))
    (sym (first.takes back) ∙ c.if-not-branch.false)))
    (λ puts told. tt) (λ puts told. tt) in
    let both = gives_then (λ (puts : Puts). puts) old mid (stores_of new) [] (pair ∷ []) [] (Err e)
    same refl first.same (gives_none old mid first.local_read first.second_read) one in
    rw (p.1, p.2) (gives_err (λ (puts : Puts). puts) (λ (put : Put). put ∷ []) old (stores_of new)
    (pair ∷ []) [] (Err e) e both)

pub returns-clause-putting : goal.returns-clause-putting
returns-clause-putting g c =
    let pair = new_pair c.args.pair in
    let old = c.args.self.now in
    let new = c.put_fitting.new.self in
    let both = putting_then old c.takes.new.self new [] (pair ∷ []) c.in_ok-takes.field-0
    (Ok c.in_ok-puts.puts) c.in_ok-takes.ensures.putting c.in_ok-puts.ensures.putting in
    putting_as old new (pair ∷ []) _ (Ok _)
    (λ told. chosen_one (list_all (takes pair) (spaces old)) pair
    (sym (c.in_ok-takes.ensures.takes (both_tell old.access told.0 told.1))
    ∙ c.if-not-branch.false))
    (putting_ok old new (pair ∷ []) c.in_ok-puts.puts _ both)

pub returns-clause-devices : goal.returns-clause-devices
returns-clause-devices g c =
    let pair = new_pair c.args.pair in
    let old = c.args.self.now in
    let mid = c.takes.new.self in
    let new = c.put_fitting.new.self in
    let first = c.in_ok-takes.ensures in
    let then = c.in_ok-puts.ensures in
    let puts = c.in_ok-puts.puts in
    let same = ap (λ base. base.access) first.putting.keeps.base in
    let one = gives_all mid new (pair ∷ []) (state_of new).room (Ok puts) then.local_grown
    then.second_grown then.room
    (λ told. let back = tell_as mid.access old.access (sym same) told in
    ap (λ (l : List Space). puts_in l (pair ∷ [])) (first.same back)
    ∙ sym (stored_one (list_all (takes pair) (spaces old))
    (sym (first.takes back) ∙ c.if-not-branch.false)))
    then.local_stored then.second_stored in
    let both = gives_then (λ (p : Puts). p) old mid (stores_of new) [] (pair ∷ []) [] (Ok puts)
    same refl first.same (gives_none old mid first.local_read first.second_read) one in
    gives_ok (λ (p : Puts). p) (λ (put : Put). put ∷ []) old (stores_of new) (pair ∷ []) puts _
    (only_one c.as_slice.result.now c.in-len1.len_at_least c.in-len1.len_below
    ∙ c.as_slice.ensures) both

pub returns-clause-outcome : goal.returns-clause-outcome
returns-clause-outcome g c t u =
    gives_stores (λ (put : Put). put ∷ []) c.args.self.now (stores_of c.put_fitting.new.self)
    (new_pair c.args.pair ∷ []) (Ok _) (both_tell c.args.self.now.access t u) refl
    (returns-clause-devices g c)

pub returns-clause-spaces : goal.returns-clause-spaces
returns-clause-spaces g c told =
    let pair = new_pair c.args.pair in
    let old = c.args.self.now in
    let mid = c.takes.new.self in
    let new = c.put_fitting.new.self in
    let first = c.in_ok-takes.ensures in
    let then = c.in_ok-puts.ensures in
    let fits = c.if-not-branch.false in
    let same = ap (λ base. base.access) first.putting.keeps.base in
    let back_l = λ (puts : mid.access.local_puts ≡ true).
    sym (ap (λ (x : Access). x.local_puts) same) ∙ puts in
    let back_s = λ (puts : mid.access.second_puts ≡ true).
    sym (ap (λ (x : Access). x.second_puts) same) ∙ puts in
    let all : list_all (takes pair) (spaces old) ≡ true = sym (first.takes told) ∙ fits in
    spaces_filled mid new pair (tell_as old.access mid.access same told)
    (first.putting.whole ∙ c.requires) then.putting.whole
    (ap (λ base. base.access) then.putting.keeps.base)
    (λ puts. first.local fits (back_l puts) (told.local (back_l puts)))
    (λ puts. first.second fits (back_s puts) (told.second (back_s puts)))
    (λ puts. then.local_grown.frames puts (told.local (back_l puts)))
    (λ puts. then.second_grown.frames puts (told.second (back_s puts)))
    ∙ ap (λ (l : List Space). map (filled pair) l) (first.same told)
    ∙ ap (λ (b : Bool). cond b (map (filled pair) (spaces old)) (spaces old)) (sym all)
