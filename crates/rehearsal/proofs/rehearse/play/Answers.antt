use Rattle.std.proofs.Common.{◌≡◌, ℕ, List, ◌++◌, length, take, drop, map, sym, ap, ◌∙◌, subst, Bor}
use Rattle.std.proofs.lemmas.List.{length-map, take_at}
use Rattle.std.specs.Option.{option_map}
use Rattle.engine.specs.Calendar.{supply_of}
use Rattle.few.specs.Few.{items}
use Rattle.life.specs.declared.call.Call.{Call}
use Rattle.life.specs.declared.call.Entry.{Entry}
use Rattle.rehearsal.specs.Calls.{calls_of}
use Rattle.rehearsal.specs.Rehearsal.{Plays}
use Rattle.rehearsal.specs.Texts.{AreJobs}
use Rattle.rehearsal.proofs.JobTexts.{bytes_of}
use Rattle.rehearsal.proofs.rehearse.play.Goals as goal

abbrev call_of : Entry → Call
call_of e = e.call

pub returns : goal.returns
returns c =
    let old = c.in_ok-history.history in
    let new = c.live.new.history in
    let texts = c.in_ok-texts.texts.items in
    let jobs = c.in_ok-jobs.jobs.items in
    let supply = supply_of (items c.args.platform.courses) in
    let kept : map call_of new ≡ map call_of old.items = c.live.ensures.calls ∙ ap (map call_of) c.deref_mut.ensures.value in
    let many : length new ≡ old.len = sym (length-map new call_of) ∙ ap length kept ∙ length-map old.items call_of ∙ sym old.ok.0 in
    let whole : take old.len (new ++ drop (length new) old.items) ≡ new = take_at new (drop (length new) old.items) old.len many in
    let asked : c.in_ok-calls.calls.items ≡ calls_of supply texts jobs =
    c.in_ok-calls.ensures ∙ ap (λ (ts : List (Bor (List ℕ))). calls_of supply ts c.deref-3.result.now) c.deref-2.ensures.value ∙ ap (calls_of supply texts) c.deref-3.ensures.value in
    subst (Plays c.args.platform (option_map (λ x. x.now) c.args.left)) (sym whole) (record {
      texts = texts;
      jobs = jobs;
      parted = c.in_ok-texts.ensures;
      written = subst (λ (ts : List (Bor (List ℕ))). AreJobs (bytes_of ts) jobs) c.deref.ensures.value c.in_ok-jobs.ensures;
      called = kept ∙ c.in_ok-history.ensures ∙ c.deref-4.ensures.value ∙ asked;
      end = c.live.ensures.lives.0;
      lives = c.live.ensures.lives.1;
    })
