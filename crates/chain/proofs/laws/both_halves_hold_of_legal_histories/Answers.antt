use Rattle.std.proofs.Common.{All}
use Rattle.ledger_views.specs.EutxoTypes.Fitting.{TxFits}
use Rattle.ledger_views.specs.LedgerLaws.Sound.{AreKeys}
use Rattle.ledger_views.specs.LedgerSpec.Headline.{BothHalves}
use Rattle.ledger_views.specs.LedgerSpec.Legal.{IsLegal, before_entry}
use Rattle.ledger_views.specs.LedgerSpec.Replay.{Course, world, past_of, published_at}
use Rattle.ledger_views.proofs.FromLedgerSpec.LegalLaws.{legal_before}
use Rattle.ledger_views.proofs.FromLedgerSpec.StartsLaws.{shown_starts}
use Rattle.chain.proofs.LegalLemmas.{legal_sound, fits_before}
use Rattle.chain.proofs.HeadlineLemmas.{IsSoundCourse, accepts_built, accepts_places, shows_standing}
use Rattle.chain.proofs.RunsLemmas.{runs_of_contracts, just_one_run}
use Rattle.chain.proofs.EndsLemmas.{shows_where_threads_stand, shows_what_is_not_over}
use Rattle.chain.proofs.ClosesLemmas.{closes_shown}
use Rattle.chain.proofs.laws.both_halves_hold_of_legal_histories.Goals as goal

pub returns : goal.returns
returns c whole all_legal begins all_fit = (both whole all_legal begins all_fit, λ n. both (before_entry whole n) (legal_before whole all_legal n) begins (fits_before whole n all_fit))
  where
    both : (d : Course) → IsLegal d → AreKeys d.genesis → All TxFits (past_of (world d)).accepted → BothHalves d
    both d legal keys fits =
        let published = c.publications_are_entries.ensures.published d legal in
        let sound = legal_sound c.starting_is_sound.ensures c.accepting_is_sound.ensures c.publishing_is_sound.ensures d keys legal in
        let kept : IsSoundCourse d = record { sound = sound; tables = λ id p h. (published id p h).table; fits = fits } in
        let runs = runs_of_contracts _ _ _ published (c.threads_are_runs.ensures.run _ _ kept.tables sound) in
        let names = c.names_are_single.ensures _ _ sound in
        let current = c.shown_threads_are_current.ensures in
        let built = accepts_built c.parts_are_accepted.ensures.after c.starts_are_accepted.ensures.after c.claims_are_accepted.ensures.after d kept in (
          record {
            published = published;
            stands = c.publications_are_entries.ensures.stands d legal;
            told_apart = c.publications_are_entries.ensures.told_apart d legal;
            runs = runs;
            digests = c.threads_are_runs.ensures.digests _ _ sound;
            one_run = λ digests. just_one_run _ _ _ runs (c.threads_are_runs.ensures.digests _ _ sound digests);
            ends_with_run = c.threads_are_runs.ensures.end _ _ kept.tables sound;
            steps = c.steps_stand_on_threads.ensures.thread _ _ sound;
            stepped = c.steps_stand_on_threads.ensures.spends _ _ sound;
            of_contracts = c.steps_stand_on_threads.ensures.names _ _ sound;
            apart = c.outputs_serve_one_contract.ensures (published_at (world d).published) (past_of (world d));
            authorised = c.parties_are_authorised.ensures _ _ sound;
            ends = c.contracts_end_threads.ensures.thread _ _ sound;
            unspent = c.contracts_end_threads.ensures.unspent _ _ sound;
            funded = c.contracts_are_funded.ensures.sums _ _ sound;
            numbers = c.contracts_are_funded.ensures.number _ _ kept.tables sound;
            references = names.0;
            ids = names.1;
            once = c.outputs_are_spent_once.ensures _ _ sound;
            preserved = c.tokens_are_preserved.ensures _ _ sound;
          },
          record {
            built = built;
            places = accepts_places c.parts_are_accepted.ensures.accepted c.starts_are_accepted.ensures.accepted c.claims_are_accepted.ensures.accepted d;
            shown = shows_standing current d kept;
            of_starts = λ ask t h. shown_starts (world d) ask.thread t h;
            current =
                shows_where_threads_stand c.threads_are_runs.ensures.run c.threads_are_runs.ensures.end c.contracts_are_funded.ensures.number c.contracts_end_threads.ensures.unspent c.found_is_enough.ensures c.starts_are_told.ensures
                current d kept;
            not_over =
                shows_what_is_not_over c.threads_are_runs.ensures.run c.threads_are_runs.ensures.end c.contracts_are_funded.ensures.number c.contracts_end_threads.ensures.unspent c.found_is_enough.ensures c.starts_are_told.ensures
                current d kept;
            closes = closes_shown current d kept c.anyone_closes_after_the_last_timeout.ensures.closes built;
          },
        )
