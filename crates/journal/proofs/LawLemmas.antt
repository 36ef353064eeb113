-- The steps keep the rule.
use Rattle.std.proofs.Common.{◌≡◌, ◌≢◌, ℕ, ◌==◌, true, false, true≢false, List, [], ◌∷◌, ◌++◌, length, refl, sym, ap, ◌∙◌, subst, arith, length-append, set, inl, None}
use Rattle.std.proofs.Math.ListN.{length-set}
use Rattle.std.proofs.lemmas.List.{append-nil}
use prog.Atomic.{either}
use Rattle.logbook.specs.Pages.{Cell, cell, Nib, keeps, gives, adds, no_nib, may_write, step, Moves}
use Rattle.journal.specs.declared.note.Note.{Note}
use Rattle.journal.specs.Law.{AllSpent, IsKept, Draws, Adds, Looks}
use Rattle.journal.proofs.NotesLemmas.{away_unused, unused_key, unused_told, spent_rest, spent_more, spent_still, home_set, home_here, home_push}

abbrev pub shown : {E : Type 0} → List (Note E) → List (Note E)
shown log = []

abbrev pub moved : {E : Type 0} → List (Note E) → List (Note E) → ℕ → Type 0
moved xs ys n = Unit {0}

abbrev pub same : ℕ → ℕ
same n = either (n == 0) 0 n

pub draw_moves : {E : Type 0} (v : List (Note E)) (ask : Note E) → Moves IsKept shown moved 0 (v, (no_nib, None)) same (Draws (step 0 0 0 ask) (v, (no_nib, None)))
draw_moves {E} v ask cells log kept pre away =
    let one : List Cell = set cells 0 (same (cell cells 0).0, true) in
    let still : (k : ℕ) → (cell cells k).1 ≡ true → (cell (one ++ (0, false) ∷ []) k).1 ≡ true = λ k h. home_push one (0, false) k (home_set cells 0 (same (cell cells 0).0) k h) in (
      kept.some,
      kept.head,
      (
        adds,
        [],
        None,
        tt,
        record {
          some = omega (arith, length-append one ((0, false) ∷ []));
          head = still 0 kept.head;
          spent = spent_still cells (one ++ (0, false) ∷ []) (log ++ []) still (subst (λ (l : List (Note E)). AllSpent cells l) (sym (append-nil log)) kept.spent);
        },
        inl (refl, refl),
        (length cells, refl),
      ),
    )

pub add_moves : {E : Type 0} (v : List (Note E)) (ask : Note E) (p : Nib) → p.right ≡ may_write → ask.by ≡ p.key → Moves IsKept shown moved 0 (v, (p, None)) same (Adds (step 0 0 0 ask) (v, (p, None)))
add_moves {E} v ask p right by cells log kept pre away =
    let gone = away right in
    let n : ℕ = same (cell cells 0).0 in
    let one : List Cell = set cells 0 (n, true) in
    let two : List Cell = set one p.key (p.value, true) in
    let still : (k : ℕ) → (cell cells k).1 ≡ true → (cell two k).1 ≡ true = λ k h. home_set one p.key p.value k (home_set cells 0 n k h) in
    let sizes : length one ≡ length cells = length-set cells 0 (n, true) in
    let sizes' : length two ≡ length one = length-set one p.key (p.value, true) in
    let home : (cell two p.key).1 ≡ true = home_here one p.key p.value (omega (arith, gone.0, sizes)) in
    let some_key : ask.by ≢ 0 = λ e. true≢false (sym kept.head ∙ (ap (λ (k : ℕ). (cell cells k).1) (sym e ∙ by) ∙ gone.1)) in
    let rest : AllSpent cells pre.0 = spent_rest cells v pre.0 (subst (λ (l : List (Note E)). AllSpent cells l) (sym pre.1) kept.spent) in
    let unused = away_unused cells p.key pre.0 gone.1 rest in (
      kept.some,
      kept.head,
      (
        gives,
        ask ∷ [],
        None,
        right,
        record {
          some = omega (arith, sizes, sizes', kept.some);
          head = still 0 kept.head;
          spent = spent_more two log (ask ∷ []) (spent_still cells two log still kept.spent) (subst (λ (k : ℕ). (cell two k).1 ≡ true) (sym by) home, some_key, tt);
        },
        inl (refl, refl),
        (pre.0, ap (λ l. l ++ ask ∷ []) (sym pre.1), unused_told p.key pre.0 unused, unused_key p.key pre.0 unused),
      ),
    )

pub look_moves : {E : Type 0} (v : List (Note E)) (ask : Note E) (p : Nib) → p.right ≡ may_write → Moves IsKept shown moved 0 (v, (p, None)) same (Looks (step 0 0 0 ask) (v, (p, None)))
look_moves {E} v ask p right cells log kept pre away =
    let gone = away right in
    let n : ℕ = same (cell cells 0).0 in
    let one : List Cell = set cells 0 (n, true) in
    let still : (k : ℕ) → (cell cells k).1 ≡ true → (cell one k).1 ≡ true = λ k h. home_set cells 0 n k h in
    let sizes : length one ≡ length cells = length-set cells 0 (n, true) in
    let all : AllSpent cells (log ++ []) = subst (λ (l : List (Note E)). AllSpent cells l) (sym (append-nil log)) kept.spent in (
      kept.some,
      kept.head,
      (
        keeps,
        [],
        None,
        tt,
        record { some = omega (arith, sizes, kept.some); head = still 0 kept.head; spent = spent_still cells one (log ++ []) still all },
        inl (refl, refl),
        (refl, away_unused cells p.key (log ++ []) gone.1 all),
      ),
    )
