-- What is kept of a table that others extend.
use Rattle.std.proofs.Common.{◌≡◌, refl, ◌∙◌, ℕ, ◌<◌, ◌≤◌, List, [], ◌∷◌, length, arith}
use Rattle.table.specs.Flat.{Flat, trees, a_value, an_observation, a_case, a_cont, Extends}

-- no list is shorter, and each number stands for the tree that it stood for
pub record Keeps (f g : Flat) : Type 0 where
  pub values : length f.values ≤ length g.values
  pub observations : length f.observations ≤ length g.observations
  pub cases : length f.cases ≤ length g.cases
  pub conts : length f.conts ≤ length g.conts
  pub value : (k : ℕ) → k < length f.values → (trees g).value k ≡ (trees f).value k
  pub observation : (k : ℕ) → k < length f.observations → (trees g).observation k ≡ (trees f).observation k
  pub case : (k : ℕ) → k < length f.cases → (trees g).case k ≡ (trees f).case k
  pub cont : (k : ℕ) → k < length f.conts → (trees g).cont k ≡ (trees f).cont k

-- a list is no shorter where each of its numbers still stands
no_shorter : {X Y : Type 0} (xs : List X) (ys : List Y) → ((k : ℕ) → k < length xs → k < length ys) → length xs ≤ length ys
no_shorter [] ys s = omega arith
no_shorter (x ∷ xs) ys s = let last = s (length xs) (omega arith) in omega (arith, last)

pub kept : (f g : Flat) → Extends f g → Keeps f g
kept f g e = record {
  values = no_shorter f.values g.values (λ k s. e.stands (a_value k) s);
  observations = no_shorter f.observations g.observations (λ k s. e.stands (an_observation k) s);
  cases = no_shorter f.cases g.cases (λ k s. e.stands (a_case k) s);
  conts = no_shorter f.conts g.conts (λ k s. e.stands (a_cont k) s);
  value = λ k s. e.keeps (a_value k) s;
  observation = λ k s. e.keeps (an_observation k) s;
  case = λ k s. e.keeps (a_case k) s;
  cont = λ k s. e.keeps (a_cont k) s;
}

pub keeps-refl : (f : Flat) → Keeps f f
keeps-refl f = record {
  values = omega arith;
  observations = omega arith;
  cases = omega arith;
  conts = omega arith;
  value = λ k s. refl;
  observation = λ k s. refl;
  case = λ k s. refl;
  cont = λ k s. refl;
}

pub keeps-trans : (f g h : Flat) → Keeps f g → Keeps g h → Keeps f h
keeps-trans f g h a b = record {
  values = omega (arith, a.values, b.values);
  observations = omega (arith, a.observations, b.observations);
  cases = omega (arith, a.cases, b.cases);
  conts = omega (arith, a.conts, b.conts);
  value = λ k s. b.value k (omega (arith, s, a.values)) ∙ a.value k s;
  observation = λ k s. b.observation k (omega (arith, s, a.observations)) ∙ a.observation k s;
  case = λ k s. b.case k (omega (arith, s, a.cases)) ∙ a.case k s;
  cont = λ k s. b.cont k (omega (arith, s, a.conts)) ∙ a.cont k s;
}
