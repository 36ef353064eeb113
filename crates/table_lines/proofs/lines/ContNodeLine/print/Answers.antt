use Rattle.std.proofs.Common.{rules, ◌≡◌, ℕ, List, ◌++◌, ◌∙◌, OnOk, ap, ap₂, sym, codes, decimal, string_bytes}
use Rattle.table_lines.specs.TableLines as words
use Rattle.table_lines.specs.TableLines.{line_end, cont_words}
use Rattle.table_lines.proofs.Printed.{printed-as}
use Rattle.table_lines.proofs.lines.ContNodeLine.print.Goals as goal

-- what is printed of a Pay
abbrev paid : ℕ → List ℕ → List ℕ → List ℕ → ℕ → List ℕ
paid value token from to then =
    codes " pay v" ++ (decimal value ++ (codes " " ++ (token ++ (codes " " ++ (from ++ (codes " " ++ (to ++ (codes " k" ++ (decimal then ++ codes "\n")))))))))

pub returns-in_ok-to-in-Pay : goal.returns-in_ok-to-in-Pay
returns-in_ok-to-in-Pay c =
    let token = string_bytes c.in_ok-token-in-Pay.token in
    let from = string_bytes c.in_ok-from-in-Pay.from in
    let to = string_bytes c.in_ok-to-in-Pay.to in
    let value = c.in-Pay.value in
    let then = c.in-Pay.then.0 in
    let printed : OnOk c.write.result (string_bytes c.write.new.self ≡ string_bytes c.args.out.now ++ paid value token from to then) = search rules in
    printed-as c.write.result (string_bytes c.args.out.now) (string_bytes c.write.new.self) (paid value token from to then) (line_end (cont_words c.args.self.now))
    (ap (λ t. paid value t from to then) c.in_ok-token-in-Pay.ensures
    ∙ ap₂ (λ f t. paid value (words.token c.in-Pay.token) f t then) c.in_ok-from-in-Pay.ensures c.in_ok-to-in-Pay.ensures
    ∙ ap (λ n. line_end (cont_words n)) (sym c.in-Pay.is))
    printed
