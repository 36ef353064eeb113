use Rattle.contract_bytes.proofs.Spellings.{form}
use Rattle.contract_bytes.proofs.Forms.{action_bytes-Notify}
use Rattle.contract_bytes.proofs.tree.put_action.Goals as goal

pub returns-in-Deposit : goal.returns-in-Deposit
returns-in-Deposit c = rw c.in-Deposit.is c.put_deposit.ensures

pub returns-in-Choice : goal.returns-in-Choice
returns-in-Choice c =
    let bounds = rw c.as_slice.ensures at c.put_choice.ensures in
    rw c.in-Choice.is bounds

pub returns-in-Notify : goal.returns-in-Notify
returns-in-Notify c = rw c.in-Notify.is (form c.put_test.result (action_bytes-Notify _) (λ h. h) c.put_test.ensures)
