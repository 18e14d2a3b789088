use Rattle.std.proofs.Common.{refl}
use Rattle.ignore_rules.proofs.Folders.{found_is}
use Rattle.ignore_rules.proofs.stack.Stack.says_in.Goals as goal

pub returns-in-Some : goal.returns-in-Some
returns-in-Some c =
    let found = found_is c.self.inside.files.entries c.args.folder.now in
    let says = rw c.deref.ensures.value at c.says.ensures in
    rw (← c.self.view_is, found, ← c.in-Some.ensures.value) says

pub returns-in-None : goal.returns-in-None
returns-in-None c =
    let found = found_is c.self.inside.files.entries c.args.folder.now in
    rw (← c.self.view_is, found, ← c.in-None.ensures.value) refl
