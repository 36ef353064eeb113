use Rattle.json_tree.specs.View.{view}
use Rattle.serve.proofs.AnswerLemmas.{fit_request}
use Rattle.serve.proofs.line_answers.answer_of.Goals as goal

pub request_answer-requires-clause-fits : goal.request_answer-requires-clause-fits
request_answer-requires-clause-fits g c = fit_request (view c.args.json.now) (view c.in-Some.body.now) c.requires.fits c.in-Some.ensures.member
