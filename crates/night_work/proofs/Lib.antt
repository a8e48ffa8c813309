mod ScriptLaws
