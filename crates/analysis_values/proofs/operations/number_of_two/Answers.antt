use Rattle.analysis_values.proofs.operations.number_of_two.Goals as goal

pub returns-in-Sum : goal.returns-in-Sum
returns-in-Sum c = rw c.in-Sum.is c.sum.ensures

pub returns-in-Difference : goal.returns-in-Difference
returns-in-Difference c = rw c.in-Difference.is c.difference.ensures

pub returns-in-Product : goal.returns-in-Product
returns-in-Product c = rw c.in-Product.is c.product.ensures

pub returns-in-Quotient : goal.returns-in-Quotient
returns-in-Quotient c = rw c.in-Quotient.is c.quotient.ensures
