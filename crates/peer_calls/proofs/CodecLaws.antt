-- With a codec, requests and readings are faithful.
use Rattle.std.proofs.Common.{◌≡◌, ℕ, ◌<◌, ◌^◌, Bool, true, [], ◌∷◌, length, Option, Some, None, Ok, Err, IfSome, refl, sym, ap, ◌∙◌, subst}
use Rattle.http_client.specs.Requests.{Ask}
use Rattle.office_model.specs.declared.event.Event.{Event}
use Rattle.office_model.specs.declared.event.Event.TheVariants as E
use Rattle.office_model.specs.declared.answer.Answer.TheVariants as A
use Rattle.office_model.specs.Meaning.{Reply}
use Rattle.call_scripts.specs.Scripts.{Script}
use Rattle.request_events.specs.declared.defaults.Defaults.{Defaults}
use Rattle.request_events.specs.Asked.{One}
use Rattle.browse_http.specs.Scripts.{IsRunOf, event_script, answering, FileRead, file_read}
use Rattle.browse_http.specs.Talk as T
use Rattle.peer_talk.specs.Mirror.{Response}
use Rattle.peer_talk.specs.Sayings.{reply_said, said_by, says, IsFileOf, IsFitting}
use Rattle.peer_talk.proofs.SayingLaws.{responses-readable}
use Rattle.peer_calls.specs.Calls.{IsFaithful, IsLegible, IsCodec}
use Rattle.peer_calls.specs.Laws.{CodecsAreFaithful}

-- one call is no file in parts
one-file : (event : Event) (reply : Reply) → file_read ((event, reply) ∷ []) ≡ None
one-file (E.OpenFile host number path) (Ok (A.Opened reader size)) = refl
one-file event reply = refl

one-answering : (event : Event) (reply : Reply) → answering ((event, reply) ∷ []) ≡ Some (event, reply)
one-answering event (Ok answer) = refl
one-answering event (Err refusal) = refl

-- what is said of one call
one-said : (event : Event) (reply : Reply) → says (T.Called ((event, reply) ∷ [])) ≡ Some (reply_said event reply)
one-said event reply = λ i. said_by (one-file event reply i) (one-answering event reply i)

same-some : {A : Type 0} (a b : A) → Some a ≡ Some b → a ≡ b
same-some a b e = cc

module _ (may : Event → Bool) (ranged : Reply → Bool) (request_of : Event → Ask) (reply_of : Event → Response → Option Reply)
    (at : ℕ → Event → Event) (defaults : Defaults) (codec : IsCodec may ranged request_of reply_of at defaults) where
  read-back : (event : Event) (moment : ℕ) (said read : Reply) (response : Response) → may event ≡ true → ranged said ≡ true
      → says (T.Called ((at moment event, said) ∷ [])) ≡ Some response → reply_of event response ≡ Some read → read ≡ said
  read-back event moment said read response fits within is heard =
      let same : response ≡ reply_said (at moment event) said =
      same-some response (reply_said (at moment event) said) (sym is ∙ one-said (at moment event) said) in
      codec.reads event moment said read fits within (ap (reply_of event) (sym same) ∙ heard)

  faithful : IsFaithful may ranged request_of reply_of at says defaults
  faithful = record {
    asks = codec.asks;
    single = codec.single;
    reads = read-back;
    stopped = λ count calls. refl;
    silent = codec.silent;
    unsaid = λ calls. refl;
    lost = refl;
  }

  one-run : (event : Event) (moment : ℕ) (reply : Reply) → may event ≡ true
      → IsRunOf (event_script (at moment event) None) ((at moment event, reply) ∷ [])
  one-run event moment reply fits =
      subst (λ (script : Script). IsRunOf script ((at moment event, reply) ∷ [])) (sym (codec.single event moment None fits)) (refl, refl)

  one-fits : (event : Event) (moment : ℕ) (reply : Reply) → may event ≡ true → ranged reply ≡ true
      → IsFitting (T.Called ((at moment event, reply) ∷ []))
  one-fits event moment reply fits within = record {
    body = subst (λ (said : Option Response). IfSome said (λ a. length a.body < 2 ^ 64)) (sym (one-said (at moment event) reply))
        (codec.fits event moment reply fits within);
    file = subst (λ (file : Option FileRead). IfSome file (IsFileOf (T.Called ((at moment event, reply) ∷ []))))
        (sym (one-file (at moment event) reply)) tt;
  }

  legible : IsLegible may ranged at says
  legible event moment reply fits within =
      responses-readable (Ok (One (at moment event))) [] (T.Called ((at moment event, reply) ∷ []))
      (One (at moment event), refl, one-run event moment reply fits) (one-fits event moment reply fits within)

pub codecs-faithful : CodecsAreFaithful
codecs-faithful may ranged request_of reply_of at defaults codec =
    (faithful may ranged request_of reply_of at defaults codec, legible may ranged request_of reply_of at defaults codec)
