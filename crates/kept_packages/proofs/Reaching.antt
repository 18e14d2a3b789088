-- What is reached, round by round.
use Rattle.std.proofs.Common.{◌≡◌, ◌⊎◌, inl, inr, ℕ, zero, suc, ◌<◌, Bool, true, false, List, [], ◌∷◌, length, sym, ◌∙◌, subst, arith}
use Rattle.std.specs.Prelude.{Some}
use Rattle.std.specs.List.{slice_get}
use Rattle.std.proofs.lemmas.Bool.{false≢true, or_cases, or_left, or_right}
use Rattle.std.proofs.lemmas.Option.{slice_get_within}
use Rattle.rel_path.specs.Paths.{Path}
use Rattle.workspaces.specs.declared.member.Package.{Package}
use Rattle.workspaces.specs.Lists.{Has}
use Rattle.workspaces.specs.Marks.{is_marked, Adds}
use Rattle.workspaces.specs.Reach.{is_in, AreBelow}
use Rattle.workspaces.specs.Space.{Space, owners}
use Rattle.repository.specs.Reading.{Contents}
use Rattle.kept_packages.specs.Kept.{Stays}
use Rattle.kept_packages.specs.Needs.{IsAmong, Gains, Leads, Needs, IsMarked, Holds, Reaches}
use Rattle.kept_packages.proofs.Lists.{some_same, get_has, in_has, has_in, below_has}

-- the owners of the first numbers are marked, and each owner that is marked and does not wait has what it needs marked
pub record Going (contents : Contents) (first : List ℕ) (marks : List Bool) (waiting : List ℕ) : Type 0 where
  pub size : length marks ≡ length (owners contents.space)
  pub begun : (q : Package) → IsAmong contents.space first q → IsMarked contents.space marks q
  pub front : (o : ℕ) (p q : Package) → is_marked marks o ≡ true → slice_get (owners contents.space) o ≡ Some p → Needs contents p q → IsMarked contents.space marks q ⊎ Has waiting o
  pub waits : (n : ℕ) → Has waiting n → is_marked marks n ≡ true
  pub least : (set : Path → Bool) → Holds contents first set → (q : Package) → IsMarked contents.space marks q → set q.folder ≡ true

-- numbers of owners are below how many there are
pub gained_below : (space : Space) (P : Package → Type 0) (numbers : List ℕ) → Gains space P [] numbers → AreBelow (length (owners space)) numbers
gained_below space P numbers gains = below_has (length (owners space)) numbers (λ n has. elim (gains.only n has) [
  | inl none ↦ absurd none
  | inr of ↦ slice_get_within (owners space) n of.member of.stands
])

marked_below : (marks : List Bool) (at : ℕ) → is_marked marks at ≡ true → at < length marks
marked_below [] at is = absurd (false≢true is)
marked_below (m ∷ marks) zero is = omega arith
marked_below (m ∷ marks) (suc at) is = let less = marked_below marks at is in omega (arith, less)

pub waiting_below : (contents : Contents) (first : List ℕ) (marks : List Bool) (waiting : List ℕ) → Going contents first marks waiting → AreBelow (length (owners contents.space)) waiting
waiting_below contents first marks waiting going = below_has (length (owners contents.space)) waiting (λ n has. omega (arith, marked_below marks n (going.waits n has), going.size))

module _ (contents : Contents) (first : List ℕ) (old new : List Bool) (numbers new_waiting : List ℕ) (adds : Adds numbers old [] new new_waiting) where
  still : (q : Package) → IsMarked contents.space old q → IsMarked contents.space new q
  still q m = record { number = m.number; marked = adds.marks m.number ∙ or_left (is_marked old m.number) (is_in numbers m.number) m.marked; stands = m.stands }

  now : (q : Package) → IsAmong contents.space numbers q → IsMarked contents.space new q
  now q a = record { number = a.number; marked = adds.marks a.number ∙ or_right (is_marked old a.number) (is_in numbers a.number) (has_in numbers a.number a.among); stands = a.stands }

  -- an owner that is marked was marked, or is among the numbers
  before_or_now : (q : Package) → IsMarked contents.space new q → IsMarked contents.space old q ⊎ IsAmong contents.space numbers q
  before_or_now q m = elim (or_cases (is_marked old m.number) (is_in numbers m.number) (sym (adds.marks m.number) ∙ m.marked)) [
    | inl was ↦ inl (record { number = m.number; marked = was; stands = m.stands })
    | inr is ↦ inr (record { number = m.number; among = in_has numbers m.number is; stands = m.stands })
  ]

  waits : (n : ℕ) → Has new_waiting n → is_marked new n ≡ true
  waits n has = elim (adds.only n (has_in new_waiting n has)) [
    | inl none ↦ absurd (false≢true none)
    | inr is ↦ is
  ]

  -- the first owners were marked
  pub began : length old ≡ length (owners contents.space) → ((n : ℕ) → is_marked old n ≡ false) → numbers ≡ first → Going contents first new new_waiting
  began size none are = record {
    size = adds.same ∙ size;
    begun = λ q a. now q (subst (λ ns. IsAmong contents.space ns q) (sym are) a);
    front = λ o p q is at needs. elim (adds.waits o is) [
      | inl was ↦ absurd (false≢true (sym (none o) ∙ was))
      | inr waiting ↦ inr (in_has new_waiting o waiting)
    ];
    waits = waits;
    least = λ set holds q m. elim (before_or_now q m) [
      | inl was ↦ absurd (false≢true (sym (none was.number) ∙ was.marked))
      | inr a ↦ holds.begun q (subst (λ ns. IsAmong contents.space ns q) are a)
    ];
  }

  -- what those that waited need was marked
  pub stepped : (waiting : List ℕ) → Going contents first old waiting → Gains contents.space (Leads contents.space (Needs contents) waiting) [] numbers → Going contents first new new_waiting
  stepped waiting going gains = record {
    size = adds.same ∙ going.size;
    begun = λ q a. still q (going.begun q a);
    front = λ o p q is at needs. elim (adds.waits o is) [
      | inl was ↦ elim (going.front o p q was at needs) [
        | inl marked ↦ inl (still q marked)
        | inr has ↦ inl (now q (gains.added q (record { user = p; among = record { number = o; among = has; stands = at }; needs = needs })))
      ]
      | inr waiting ↦ inr (in_has new_waiting o waiting)
    ];
    waits = waits;
    least = λ set holds q m. elim (before_or_now q m) [
      | inl was ↦ going.least set holds q was
      | inr a ↦ reached set holds q a
    ];
  } where
    reached : (set : Path → Bool) → Holds contents first set → (q : Package) → IsAmong contents.space numbers q → set q.folder ≡ true
    reached set holds q a = elim (gains.only a.number a.among) [
      | inl none ↦ absurd none
      | inr of ↦
          let l = of.is in
          let same : of.member ≡ q = some_same of.member q (sym of.stands ∙ a.stands) in
          let user : set l.user.folder ≡ true = going.least set holds l.user (record { number = l.among.number; marked = going.waits l.among.number l.among.among; stands = l.among.stands }) in
          let stays : Stays contents set l.user = record { owner = get_has (owners contents.space) l.among.number l.user l.among.stands; stays = user } in
          holds.needs l.user q stays (subst (λ x. Needs contents l.user x) same l.needs)
    ]

-- nothing waits in the end
pub ended : (contents : Contents) (first : List ℕ) (marks : List Bool) (waiting : List ℕ) → waiting ≡ [] → Going contents first marks waiting → Reaches contents first marks
ended contents first marks waiting over going = record {
  size = going.size;
  begun = going.begun;
  closed = λ p q m needs. elim (going.front m.number p q m.marked m.stands needs) [
    | inl marked ↦ marked
    | inr has ↦ absurd (subst (λ ns. Has ns m.number) over has)
  ];
  least = going.least;
}
